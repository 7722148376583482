pub mod Row
pub mod RunEffect
pub mod Noted
pub mod SeqRun
pub mod ImpreciseRan
pub mod Stays
pub mod Shows
