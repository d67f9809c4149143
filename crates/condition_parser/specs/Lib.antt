pub mod Inside
pub mod Nests
