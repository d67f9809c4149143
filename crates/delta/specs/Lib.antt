pub mod Maintained
pub mod Parts
pub mod Views
