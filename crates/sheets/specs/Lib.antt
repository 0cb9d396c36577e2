pub mod Counting
pub mod Replies
pub mod Claims
pub mod Inner
