pub mod Fields
pub mod Sets
pub mod Table
pub mod Slots
pub mod Words
pub mod Decision
