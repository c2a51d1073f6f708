pub mod Play
pub mod Encoding
pub mod Erase
pub mod Inner
