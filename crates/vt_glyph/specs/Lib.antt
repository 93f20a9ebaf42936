pub mod LookUp
pub mod Tables
pub mod Designation
pub mod GraphicSets
pub mod Invocation
pub mod Spell
pub mod Encoding
pub mod Laws
