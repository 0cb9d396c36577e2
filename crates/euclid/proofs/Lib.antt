pub mod Chains
pub mod Steps
pub mod Built
pub mod Examples
