pub mod Tables
pub mod Plans
pub mod Reading
pub mod Listed
