mod Times
mod Kept
mod Fits
mod Letters
mod Texts
mod Edges
mod Cut
mod Resized
pub mod Graphic
