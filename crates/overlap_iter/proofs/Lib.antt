pub mod Lists
pub mod Marks
pub mod Nodes
pub mod Frames
pub mod Entering
pub mod Looking
pub mod WholeWalks
