mod Classes
mod Placing
pub mod Segments
