pub mod Telling
pub mod Naming
pub mod Stepping
pub mod Keeping
pub mod Opening
