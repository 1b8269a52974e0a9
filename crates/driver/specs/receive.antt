pub mod Chains
pub mod Exchanges
pub mod Batches
pub mod Receiver
pub mod Returns
