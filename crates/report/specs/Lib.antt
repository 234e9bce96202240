pub mod Words
pub mod Reports
pub mod Json
pub mod Worked
pub mod Passing
pub mod Plain
