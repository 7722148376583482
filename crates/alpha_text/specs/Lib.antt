pub mod SuffixWords
pub mod Bounds
pub mod Canon
pub mod Grammar
pub mod Heads
pub mod Reading
pub mod References
pub mod Statements
