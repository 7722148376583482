pub mod Frames
pub mod Registers
pub mod InputTaken
pub mod SystemCalls
pub mod Callsys
pub mod InputRequests
pub mod PalCalls
pub mod LawLemmas
