pub mod StateLaws
pub mod Theorems
pub mod AnswerLaws
pub mod PastLaws
pub mod StartLaws
