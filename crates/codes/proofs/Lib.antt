pub mod Sets
pub mod Rows
pub mod Codes
pub mod Halves
pub mod Table
