pub mod IndexedRows
mod KeyedRows
pub mod LastRows
pub mod Walked
mod FoundRows
