pub mod Calls
pub mod Since
pub mod Waiting
pub mod Files
