pub mod Input
pub mod Text
pub mod Output
pub mod Filling
pub mod Inner
pub mod Claims
