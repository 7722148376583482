pub mod GreatestInRange
pub mod ClassTests
pub mod ScanRelation
pub mod ScanSteps
pub mod HandlerEffect
