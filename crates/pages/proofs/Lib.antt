pub mod Drafted
pub mod Longest
pub mod Gathered
pub mod Pieces
pub mod Answers
pub mod Outs
pub mod Unique
pub mod Laws
