pub mod Closing
pub mod Report
