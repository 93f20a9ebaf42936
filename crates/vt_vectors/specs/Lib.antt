pub mod Outcome
pub mod Comparison
pub mod HeldSamples
pub mod Devices
pub mod Bench
pub mod Vectors
