pub mod Courses
pub mod Loop
pub mod Starting
pub mod Joined
pub mod Leading
pub mod Turns
pub mod Laws
