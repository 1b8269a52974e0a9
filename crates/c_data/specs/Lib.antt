pub mod Descriptors
pub mod Moves
pub mod Once
