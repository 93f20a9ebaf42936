-- Definitions that only private contracts cite. No public clause does, and no reader has to believe it.
pub mod Appended
