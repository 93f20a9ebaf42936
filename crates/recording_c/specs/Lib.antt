pub mod Status
pub mod Headings
pub mod Events
