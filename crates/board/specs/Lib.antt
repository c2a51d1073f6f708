pub mod BoardKind
pub mod Demand3
pub mod ByteCalls
pub mod View
pub mod Values
pub mod Demand1
pub mod Inner
