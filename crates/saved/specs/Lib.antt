pub mod Saved
pub mod Replies
pub mod Answers
pub mod Inner
pub mod Release
pub mod Claims
