pub mod Arguments
pub mod Moves
pub mod RegisterTexts
pub mod States
