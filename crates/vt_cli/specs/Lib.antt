pub mod CommandLine
pub mod Moment
pub mod Request
pub mod Source
