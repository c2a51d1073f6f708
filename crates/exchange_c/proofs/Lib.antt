pub mod StoredBytes
pub mod Calls
pub mod Told
pub mod Replies
pub mod Exchanged
pub mod Erase
pub mod Unused
pub mod Demand2
