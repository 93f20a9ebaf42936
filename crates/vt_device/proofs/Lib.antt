pub mod Steps
pub mod OutputSteps
