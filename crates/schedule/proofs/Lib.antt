pub mod ProgramLaws
pub mod TimeLaws
pub mod NumberLaws
pub mod UnusedLaws
pub mod Packing
pub mod Examples
