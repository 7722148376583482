pub mod SetMembers
pub mod DigitLemmas
pub mod RegLemmas
