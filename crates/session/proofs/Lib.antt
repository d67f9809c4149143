pub mod Known
pub mod Ranges
pub mod Tokens
pub mod Reasons
pub mod Standing
pub mod Committing
pub mod Crossing
