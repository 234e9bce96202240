pub mod Lists
pub mod Weaves
pub mod Holes
pub mod Cutting
pub mod Depths
pub mod Frames
pub mod Rows
pub mod Fresh
pub mod Copying
pub mod Moving
mod Shifting
pub mod Greatest
mod Singles
pub mod Topping
mod Splitting
pub mod Leading
pub mod Linking
pub mod Parting
pub mod Growing
mod InOrder
mod TestGrowing
mod TestShots
