pub mod Constraints
pub mod Indexes
pub mod Redeclaration
pub mod Sentences
pub mod Tables
pub mod Taken
pub mod Written
