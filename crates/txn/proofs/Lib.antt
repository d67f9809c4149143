mod Checking
mod Holding
mod Inserting
mod Naming
mod Putting
pub mod Fits
pub mod Fitting
mod Truths
