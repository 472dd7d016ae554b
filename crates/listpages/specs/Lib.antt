pub mod Walking
pub mod Entries
pub mod Listing
pub mod Answering
