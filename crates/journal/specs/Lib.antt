pub mod Spots
pub mod Walks
pub mod Windows
