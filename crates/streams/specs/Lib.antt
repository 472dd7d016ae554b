pub mod Reading
pub mod Digits
