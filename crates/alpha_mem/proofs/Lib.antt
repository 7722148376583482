mod Numbers
mod Blocks
mod Faults
mod Bytes
mod BlockPlaces
mod Writable
mod Memories
pub mod LawLemmas
pub mod Regions
pub mod RegionAccess
