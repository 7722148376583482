pub mod ConditionalChoices
pub mod SplitLines
pub mod Digits
pub mod TokenOrder
pub mod TokenSuffixes
pub mod StringLengths
pub mod QuotedTexts
pub mod CarriageReturns
