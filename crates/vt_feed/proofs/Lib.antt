pub mod Playing
mod Fronts
mod Texts
mod Pending
mod Spelled
