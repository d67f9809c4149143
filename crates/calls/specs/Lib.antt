pub mod Sessions
pub mod Statements
pub mod Keeping
pub mod Calls
pub mod Journals
pub mod Steps
pub mod Serving
pub mod States
