pub mod Transmitter
pub mod Frames
pub mod Going
pub mod Cleaning
pub mod Batches
pub mod Returns
