pub mod Candidates
pub mod Judged
pub mod Ordered
pub mod Readers
pub mod Live
pub mod Held
