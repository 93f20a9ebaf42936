pub mod Looks
pub mod Limits
pub mod Show
pub mod Picture
pub mod Draw
pub mod Private
