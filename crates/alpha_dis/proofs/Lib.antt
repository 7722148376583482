pub mod BlockEffects
pub mod Hexadecimal
pub mod NameSizes
pub mod PutPieces
pub mod ListingTexts
