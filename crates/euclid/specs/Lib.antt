pub mod Chain
pub mod Replies
