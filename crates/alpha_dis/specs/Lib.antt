pub mod Listing
pub mod SinkEffect
pub mod Written
