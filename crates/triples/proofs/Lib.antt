pub mod Beginnings
pub mod Totals
pub mod Complete
pub mod Finding
pub mod Seeking
pub mod Calls
pub mod Examples
