pub mod Board
pub mod Kind
pub mod Calls
pub mod Lists
pub mod View
