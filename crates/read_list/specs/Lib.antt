pub mod Lists
pub mod TestLists
