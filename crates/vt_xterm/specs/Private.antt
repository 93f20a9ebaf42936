-- Definitions that only private contracts cite.
pub mod Finding
pub mod Feeds
pub mod Profiles
