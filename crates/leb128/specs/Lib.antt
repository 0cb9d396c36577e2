pub mod Parser
pub mod Number
pub mod Reading
pub mod Writing
pub mod Inner
