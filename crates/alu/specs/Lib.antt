pub mod Width
pub mod Flags
pub mod Operations
pub mod Bounds
pub mod Columns
pub mod Sums
pub mod Highest
pub mod Kinds
