pub mod Stock
pub mod Steps
pub mod Content
pub mod Lists
pub mod Scopes
pub mod Holding
pub mod Taking
