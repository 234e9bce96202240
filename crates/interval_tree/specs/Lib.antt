pub mod Nodes
pub mod Held
pub mod States
pub mod Steps
pub mod Trees
pub mod Listings
pub mod TestTrees
