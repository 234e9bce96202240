-- The laws of the script format: what is read is spelled so, and what is spelled so is read.
pub mod Steps
pub mod Bytes
pub mod Numbers
pub mod Keys
pub mod Cuts
pub mod Spans
pub mod Stamps
pub mod Latches
pub mod Lists
pub mod Commands
pub mod Printed
pub mod Parts
pub mod Walk
pub mod Sizes
pub mod Scripts
