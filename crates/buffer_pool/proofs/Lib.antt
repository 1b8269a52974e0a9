mod Chains
pub mod Numbers
mod Pile
pub mod Shaped
