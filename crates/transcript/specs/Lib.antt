pub mod Transcript
pub mod Inner
