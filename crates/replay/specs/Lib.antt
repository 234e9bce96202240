pub mod Blocks
pub mod Sessions
pub mod Running
