pub mod Message
pub mod Text
pub mod Read
pub mod Spelling
pub mod View
pub mod Inner
