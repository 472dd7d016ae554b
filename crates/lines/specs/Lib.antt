pub mod Lines
pub mod Answers
pub mod Pages
pub mod Words
pub mod Remarks
pub mod Putting
