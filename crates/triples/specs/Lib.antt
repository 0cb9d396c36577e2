pub mod Triples
pub mod Replies
pub mod Claims
