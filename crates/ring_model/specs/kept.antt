pub mod Queues
pub mod Receive
pub mod Transmit
pub mod Writes
pub mod CanCut
