pub mod Colours
pub mod Cuts
pub mod Beyond
pub mod NoSides
mod Terminals
pub mod Fed
mod Times
mod WrittenBeyond
pub mod Bounds
pub mod SoundScreens
pub mod Stays
mod Places
mod Fitting
mod Landing
mod Translated
pub mod SoundWholes
pub mod Screens
mod Limits
mod Logged
pub mod OfOneSize
mod TextPlayed
mod TakenAs
