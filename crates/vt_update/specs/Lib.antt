pub mod Leads
pub mod Limits
pub mod Private
