pub mod Packets
pub mod Pools
pub mod Queues
pub mod Ranges
pub mod Receiving
pub mod Transmitting
