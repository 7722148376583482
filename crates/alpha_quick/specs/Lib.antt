pub mod InsnPrefix
pub mod Unparsed
pub mod Keys
pub mod Listed
pub mod Parts
pub mod Prescanned
pub mod TerminatedLine
pub mod Words
