mod Unbounded
pub mod Played
mod Colours
mod Same
