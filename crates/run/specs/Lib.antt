pub mod Splitting
pub mod Courses
pub mod Runs
pub mod Following
pub mod Leading
