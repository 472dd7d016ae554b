pub mod Pick
pub mod Checks
pub mod Tells
pub mod Along
pub mod Text
pub mod Promises
