mod Painted
mod Leading
mod Between
mod Pending
mod Spelled
mod Rebuilt
mod Vt220
