pub mod Demand
pub mod Trial
pub mod Offered
