pub mod Replies
pub mod Filling
pub mod Claims
