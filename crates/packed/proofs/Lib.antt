pub mod Backwards
pub mod Checking
pub mod Records
mod Packs
pub mod Unpacking
