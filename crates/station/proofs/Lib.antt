pub mod ReadLaws
pub mod OneByte
pub mod ReadWritten
pub mod ReadSpelt
