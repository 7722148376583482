pub mod Hashes
pub mod Tree
pub mod Finder
pub mod Names
pub mod Values
