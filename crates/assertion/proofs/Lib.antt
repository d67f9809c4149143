pub mod BadRoots
pub mod KeptTruth
pub mod LawLemmas
pub mod ListLemmas
pub mod RootLists
