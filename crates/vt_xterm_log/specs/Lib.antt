pub mod Log
pub mod Observers
