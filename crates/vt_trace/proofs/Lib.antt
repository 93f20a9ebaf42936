pub mod Tables
mod TracedBytes
mod Traces
pub mod Contents
mod Leaves
pub mod Runs
mod Happened
mod Digits
pub mod Beyond
pub mod Words
pub mod SequenceNames
