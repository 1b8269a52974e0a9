pub mod Weights
pub mod Batches
pub mod Returns
pub mod Giving
