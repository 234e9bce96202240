pub mod Patience
pub mod Waiting
pub mod Making
pub mod Declining
pub mod Acquiring
