pub mod Laws
pub mod RunLaws
pub mod EncodingLaws
pub mod EraseLaws
