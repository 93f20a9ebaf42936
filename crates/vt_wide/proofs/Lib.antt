mod Full
pub mod Parting
pub mod Lines
pub mod Wholes
pub mod Runs
