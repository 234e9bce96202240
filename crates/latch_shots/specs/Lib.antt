pub mod Held
pub mod Met
pub mod Roots
pub mod Shots
pub mod Shown
pub mod TestShots
pub mod Walks
