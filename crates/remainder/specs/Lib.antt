pub mod Remainder
pub mod Bytes
