pub mod Act
pub mod View
pub mod Inner
