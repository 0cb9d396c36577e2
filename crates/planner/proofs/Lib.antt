pub mod Demanded
pub mod Trials
pub mod Triples
