pub mod UnusedLaws
pub mod RangeLaws
pub mod SpareLaws
pub mod ConversionLaws
