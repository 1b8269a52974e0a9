pub mod Drawing
pub mod Lists
pub mod Pairs
pub mod OutcomeKind
pub mod Tried
