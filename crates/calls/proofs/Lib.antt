pub mod Demand
pub mod FirstBytes
pub mod Steps
pub mod Laws
pub mod Pending
pub mod Kept
pub mod Theorem
