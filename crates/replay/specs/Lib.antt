pub mod Calls
pub mod Runs
pub mod Books
pub mod Reads
pub mod Rounds
pub mod Questions
