pub mod Families
pub mod Keys
pub mod Locks
pub mod Readers
