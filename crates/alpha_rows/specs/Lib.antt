pub mod Meaning
pub mod PassingSteps
pub mod Rows
