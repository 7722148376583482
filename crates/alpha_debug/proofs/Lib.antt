mod BlockContents
mod LineWords
mod RowTexts
mod SinkEffects
mod WatchedSteps
mod DebuggerSteps
mod Sessions
mod ScriptLines
mod Scripts
mod ScriptPieces
mod ScriptUnderway
mod SessionStart
mod HandedLines
mod HandedSessions
pub mod Transcripts
