pub mod Walks
pub mod Calls
pub mod Past
pub mod Claims
