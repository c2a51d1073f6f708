pub mod Rows
pub mod ScheduleRows
pub mod StoredDates
pub mod Demand2
pub mod Examples
