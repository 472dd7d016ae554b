pub mod Isolation
pub mod Calls
pub mod Wrong
pub mod Examples
