mod Adding
mod Collecting
mod Reporting
mod Answered
pub mod Lists
pub mod Chains
pub mod Crossing
