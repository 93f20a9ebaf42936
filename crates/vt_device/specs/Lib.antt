pub mod Runs
pub mod Watched
pub mod Writing
pub mod Fault
pub mod Output
