-- what a reader of the contracts must believe
pub mod Says
pub mod Polls
-- what the values keep, and the steps of a poll
pub mod Met
pub mod Kept
pub mod Steps
