pub mod Lists
pub mod Writers
pub mod Counted
pub mod Logs
pub mod Example
