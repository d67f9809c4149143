mod Members
pub mod Places
mod KeyLists
pub mod Due
pub mod Fitting
pub mod FilteredUnder
pub mod Walks
mod LentRows
mod Sorting
mod Runs
mod KeyedRows
mod GroupWalks
mod LeastValues
