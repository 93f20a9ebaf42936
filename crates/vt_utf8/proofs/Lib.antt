mod Tables
pub mod Texts
mod Encodes
mod Reading
mod Firsts
pub mod Cuts
pub mod Silence
mod Plain
pub mod Fed
pub mod Logged
mod CutOff
pub mod TakenAs
pub mod Themselves
pub mod Written
mod Lanes
pub mod Widths
mod Narrow
pub mod Whole
pub mod Wide
