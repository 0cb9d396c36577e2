pub mod Flips
pub mod Swaps
pub mod Once
pub mod Calls
pub mod Examples
