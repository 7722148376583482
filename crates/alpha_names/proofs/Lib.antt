pub mod TreeSearches
pub mod NumberLookups
pub mod NumberedNames
pub mod NameValues
