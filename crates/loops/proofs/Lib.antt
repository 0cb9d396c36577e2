pub mod Examples
pub mod Loops
pub mod Entries
pub mod Members
pub mod Rising
