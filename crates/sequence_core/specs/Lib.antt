pub mod Bounds
pub mod Says
pub mod Counted
pub mod Lanes
pub mod Book
pub mod Kept
pub mod Preparing
