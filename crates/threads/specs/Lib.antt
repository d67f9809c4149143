pub mod Grouping
pub mod Adding
pub mod Grouped
pub mod Scripts
pub mod Lines
pub mod Keeping
pub mod Marked
pub mod Kept
