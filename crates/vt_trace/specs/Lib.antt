pub mod Names
pub mod Lines
pub mod Skipped
pub mod Trace
pub mod Runs
pub mod Observed
pub mod Utf8
pub mod Private
