mod Directives
mod CanonicalLines
mod Keys
mod LexemeMeanings
mod Parts
mod TerminatedLines
mod NameWords
