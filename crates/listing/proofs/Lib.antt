pub mod Written
pub mod Onward
pub mod Heads
pub mod Groups
pub mod Front
pub mod Listing
pub mod From
