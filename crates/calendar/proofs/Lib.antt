pub mod DayLaws
pub mod DateLaws
pub mod NextDay
pub mod DayByDay
