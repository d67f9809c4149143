pub mod Turns
mod Small
pub mod Merging
mod Taking
