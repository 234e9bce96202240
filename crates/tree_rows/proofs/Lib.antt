mod Planting
mod Shrinking
