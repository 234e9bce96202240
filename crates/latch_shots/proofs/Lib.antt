pub mod Roots
pub mod Closing
pub mod Meeting
pub mod Staying
pub mod Walking
pub mod TestShots
