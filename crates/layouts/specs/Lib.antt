pub mod Layouts
pub mod Inner
