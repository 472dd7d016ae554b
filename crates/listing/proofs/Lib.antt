pub mod Splits
pub mod Tables
pub mod Walks
pub mod Finds
pub mod Ways
pub mod Steps
pub mod Laws
pub mod Exactly
pub mod Prints
pub mod Joins
pub mod Hex
pub mod Single
mod Shown
