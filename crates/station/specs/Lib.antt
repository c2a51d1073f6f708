pub mod Encode
pub mod Read
pub mod Inner
