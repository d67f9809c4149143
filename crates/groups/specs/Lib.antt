pub mod Answers
pub mod Counts
pub mod Figures
pub mod Indexes
pub mod IndexSteps
pub mod Members
pub mod Steps
pub mod Totals
