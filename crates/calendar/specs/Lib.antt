pub mod Calendar
pub mod DayByDay
