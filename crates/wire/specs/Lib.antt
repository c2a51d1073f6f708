pub mod Refusal
pub mod Digits
pub mod Packet
pub mod Judge
pub mod Checks
pub mod Inner
