pub mod Quiesced
pub mod Stepping
pub mod Reached
