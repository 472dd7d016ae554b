pub mod Writing
pub mod Running
pub mod Unpacking
pub mod Packing
pub mod Naming
