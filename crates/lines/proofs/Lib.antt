pub mod Inputs
pub mod Putting
pub mod Decimals
pub mod Lines
pub mod Fitting
pub mod Block
pub mod Printed
pub mod Examples
