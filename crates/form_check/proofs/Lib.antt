pub mod Steps
pub mod Equations
mod Numberings
pub mod KnownNames
