pub mod Planting
pub mod Shrinking
