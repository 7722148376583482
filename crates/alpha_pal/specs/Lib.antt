pub mod Frame
pub mod Kernel
pub mod Call
pub mod Serve
pub mod Taken
pub mod Passed
pub mod CallEffect
