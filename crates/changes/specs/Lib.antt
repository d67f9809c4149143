pub mod Nets
pub mod Shown
pub mod Filters
pub mod Insertions
pub mod Lookups
pub mod Keyed
pub mod Extremes
