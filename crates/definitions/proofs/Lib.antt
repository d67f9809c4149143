pub mod GoodTables
mod InsertedRows
pub mod Kept
pub mod OneMore
pub mod Redeclaring
pub mod Says
pub mod Unknown
pub mod WithoutIndexes
pub mod WrittenAssertions
