pub mod Inner
mod Alone
