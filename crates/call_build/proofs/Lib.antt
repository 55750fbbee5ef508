-- Laws of set-up and build, one subject a file.
pub mod SettingUp
pub mod Tagging
pub mod Building
