pub mod LastBlock
pub mod Calls
pub mod Examples
