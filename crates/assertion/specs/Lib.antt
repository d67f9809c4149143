pub mod Bounded
pub mod Candidates
pub mod Changes
pub mod Declarations
pub mod Laws
pub mod Meaning
pub mod Roots
