pub mod Intent
pub mod Block
pub mod Size
pub mod Fault
pub mod Memory
