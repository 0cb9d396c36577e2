pub mod Bytes
pub mod Passes
pub mod Text
pub mod Part
pub mod Reading
pub mod Heads
