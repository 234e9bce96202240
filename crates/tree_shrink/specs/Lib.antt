pub mod Slots
pub mod Stages
pub mod Steps
