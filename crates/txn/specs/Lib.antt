pub mod Checks
pub mod Committed
pub mod Effects
pub mod Fitting
pub mod Held
pub mod Runnable
pub mod Steps
pub mod Transactions
