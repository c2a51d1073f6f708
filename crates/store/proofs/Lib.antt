pub mod Tables
pub mod FieldLaws
pub mod StoreLaws
pub mod SettingLaws
pub mod DateLaws
pub mod TagLaws
