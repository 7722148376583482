pub mod Cuts
pub mod FixedSource
pub mod FixedLines
pub mod Fix
pub mod Lines
