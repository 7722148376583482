pub mod Program
pub mod Words
pub mod Report
pub mod Counted
pub mod Lines
