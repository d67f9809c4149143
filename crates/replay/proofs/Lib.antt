pub mod Late
mod Printing
mod Reporting
pub mod Taking
mod Verdicts
