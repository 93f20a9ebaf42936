pub mod Turns
pub mod Chunks
pub mod Elements
mod Arrays
