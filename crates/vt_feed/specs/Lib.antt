pub mod Actions
pub mod Languages
pub mod Spelled
pub mod Observing
pub mod Observers
