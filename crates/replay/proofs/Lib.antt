pub mod Calls
pub mod Playing
pub mod Traces
pub mod Units
mod Noting
pub mod Reading
pub mod Rounds
pub mod Questions
