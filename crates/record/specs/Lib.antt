pub mod Sinks
pub mod Sources
