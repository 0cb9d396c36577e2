pub mod Replies
pub mod Ranking
pub mod Claims
