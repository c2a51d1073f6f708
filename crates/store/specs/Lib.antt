pub mod Fields
pub mod Settings
pub mod Layout
pub mod Contents
pub mod Inner
