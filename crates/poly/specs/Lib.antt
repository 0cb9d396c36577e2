pub mod Code
pub mod Division
pub mod Coprime
pub mod Limits
pub mod Causes
pub mod Replies
