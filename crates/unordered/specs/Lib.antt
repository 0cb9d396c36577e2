pub mod Unordered
pub mod Replies
pub mod Claims
