pub mod Counts
pub mod Words
pub mod Sequences
pub mod Pairs
pub mod Replies
pub mod Claims
