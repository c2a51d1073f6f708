pub mod Tests
pub mod Tables
pub mod DigitRange
pub mod DigitLaws
pub mod CaseLaws
pub mod PacketLaws
pub mod Vectors
