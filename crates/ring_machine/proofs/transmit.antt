pub mod Bits
pub mod Telling
pub mod Moving
pub mod Running
