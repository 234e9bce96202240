pub mod Commas
pub mod Growth
pub mod Further
pub mod Parts
pub mod Plain
pub mod Values
