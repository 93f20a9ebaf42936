mod Shared
mod Sizes
mod Cuts
mod Runs
