pub mod Ends
pub mod Orders
pub mod Numbering
pub mod Standing
pub mod Looking
pub mod Lasts
