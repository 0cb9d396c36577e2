pub mod Rules
pub mod Levels
pub mod Trial
pub mod Replies
pub mod Before
pub mod Claims
