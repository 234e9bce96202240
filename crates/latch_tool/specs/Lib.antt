pub mod Words
pub mod Replays
pub mod Outcomes
pub mod Codes
