pub mod Parser
pub mod Number
pub mod Field
pub mod Groups
pub mod Putting
pub mod Told
