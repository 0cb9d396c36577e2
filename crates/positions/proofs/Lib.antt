pub mod Ranking
pub mod Preceding
pub mod ReadBack
pub mod Assembly
pub mod Chained
pub mod Undo
