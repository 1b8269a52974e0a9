pub mod Going
pub mod Cleaning
pub mod Frames
pub mod Posting
pub mod Fronts
pub mod Batching
pub mod Wholes
