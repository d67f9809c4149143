pub mod Comparisons
pub mod Ordered
pub mod Results
pub mod Texts
pub mod ValueOrder
pub mod Truths
