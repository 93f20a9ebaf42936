pub mod Lists
pub mod EachSet
pub mod Charts
pub mod Glyphs
pub mod ChartBytes
pub mod Reading
pub mod Designations
pub mod Spelled
