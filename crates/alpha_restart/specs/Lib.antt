pub mod Safe
pub mod Match
pub mod Trigger
pub mod Shadow
pub mod Invariant
pub mod Table
pub mod Needed
pub mod Columns
