mod Turns
mod Sizes
mod Small
