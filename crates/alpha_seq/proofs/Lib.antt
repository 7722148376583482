mod Examples
pub mod RegisterWrites
pub mod SingleSteps
pub mod RunsOverInput
pub mod ExecutedInsns
pub mod StepsMade
pub mod PalCallSteps
pub mod NextInsns
pub mod LoadedValues
pub mod ImageLoads
pub mod RunSteps
pub mod InputRequests
pub mod RunSequence
pub mod RunsWithoutInput
pub mod InputPrefixes
pub mod FastStepLaws
pub mod FastRuns
