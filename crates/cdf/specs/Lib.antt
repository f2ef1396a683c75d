pub mod Entries
pub mod Layout
pub mod Limits
pub mod Lists
pub mod Start
pub mod Windows
pub mod Words
