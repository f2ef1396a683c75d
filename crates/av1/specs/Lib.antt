pub mod Alphas
pub mod Partitions
pub mod Refusals
pub mod Segments
pub mod Sides
pub mod Sizes
pub mod Tiles
pub mod Vectors
