pub mod Sets
pub mod Codes
pub mod Claims
pub mod Replies
pub mod Inner
