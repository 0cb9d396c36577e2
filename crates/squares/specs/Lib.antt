pub mod Squares
pub mod Symbols
pub mod Sheets
pub mod Replies
pub mod PairSheet
pub mod Claims
pub mod Doubling
pub mod Lines
