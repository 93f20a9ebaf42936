mod Pieces
mod Powers
mod Ends
mod Supplemental
mod Writing
mod Texts
mod Lasts
pub mod Marks
mod Passing
mod FirstLines
mod Fronts
mod Frames
mod Values
mod Versions
mod Changing
mod Searches
