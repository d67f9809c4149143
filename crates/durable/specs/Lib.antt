pub mod Restoring
pub mod Batches
pub mod Promise
pub mod Opening
pub mod Writing
pub mod Images
pub mod Epochs
pub mod Faults
