pub mod Pieces
pub mod Quotes
pub mod Lines
pub mod Refusals
pub mod Seating
pub mod Feeding
pub mod Talking
