-- Definitions that only private contracts cite. No public clause does, and no reader has to believe it.
pub mod HeaderParts
pub mod Room
pub mod ChangeEvents
pub mod Parts
pub mod Attributes
pub mod Tables
