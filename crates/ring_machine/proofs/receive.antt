pub mod Telling
pub mod Moving
pub mod Running
