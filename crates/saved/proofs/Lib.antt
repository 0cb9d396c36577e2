pub mod Eights
pub mod Places
pub mod Ending
pub mod Saving
pub mod Release
pub mod Parts
pub mod Claims
pub mod Examples
