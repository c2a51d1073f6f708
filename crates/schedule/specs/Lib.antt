pub mod Programs
pub mod Numbers
pub mod Inner
