pub mod Encode
pub mod Read
pub mod Checks
pub mod Examples
pub mod Inner
