pub mod Field
pub mod Levels
pub mod Regs
pub mod Digits
