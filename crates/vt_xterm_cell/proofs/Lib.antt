mod Numbers
mod Digits
mod Readings
pub mod Writable
