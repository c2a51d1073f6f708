pub mod State
pub mod Exports
pub mod Inner
