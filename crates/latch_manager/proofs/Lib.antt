pub mod Waits
pub mod Acquires
pub mod Declines
