pub mod Spelled
pub mod Answered
pub mod Paged
pub mod Shown
pub mod ReadBack
pub mod Longest
pub mod Unlisted
pub mod Putting
