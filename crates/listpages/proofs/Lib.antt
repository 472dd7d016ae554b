pub mod Walks
pub mod Lined
pub mod Entered
pub mod Longest
pub mod Outs
pub mod Unique
