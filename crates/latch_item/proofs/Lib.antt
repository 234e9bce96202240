pub mod Packing
pub mod Bytes
pub mod Comparing
pub mod Rows
pub mod Filling
pub mod Sides
