mod Stops
mod Areas
pub mod PowerUp
mod Cuts
mod RowTexts
mod Runs
pub mod Bytes
mod GlyphSizes
mod Equal
pub mod SoundEffects
pub mod Tables
pub mod Silent
pub mod SoundPlay
pub mod SizeKept
pub mod SizeHappened
mod Staying
pub mod Resized
pub mod OneSize
pub mod Happened
mod Playing
pub mod Scrolled
pub mod LineEnds
