pub mod TypeLists
pub mod BoundedForms
pub mod ExprTypes
mod Widths
mod Refused
mod KnownNames
mod SelectedNames
mod Lists
