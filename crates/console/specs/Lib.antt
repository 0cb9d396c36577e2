pub mod Status
pub mod Records
