pub mod Hashing
pub mod Reading
pub mod Running
pub mod Saying
pub mod Splitting
