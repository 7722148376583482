pub mod Scan
pub mod Finds
pub mod Completed
pub mod Handler
pub mod RawCode
