pub mod Kinds
pub mod Edits
pub mod Whole
pub mod Runs
