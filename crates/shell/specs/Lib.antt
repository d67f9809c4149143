pub mod Cuts
pub mod Reading
pub mod Headings
pub mod Outcomes
pub mod Seats
pub mod Writing
pub mod Shell
