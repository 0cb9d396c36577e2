pub mod Ascent
pub mod Members
pub mod Differing
pub mod Filter
