pub mod Bytes
pub mod Items
pub mod Puts
pub mod Shape
pub mod Sides
