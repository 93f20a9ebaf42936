pub mod Updates
pub mod Private
