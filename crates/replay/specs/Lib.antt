pub mod Lines
pub mod Replay
pub mod Reports
pub mod Takings
pub mod Texts
pub mod Writing
