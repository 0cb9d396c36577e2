pub mod Longest
pub mod Replies
pub mod Claims
