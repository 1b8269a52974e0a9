pub mod shared
pub mod receive
pub mod transmit
pub mod Queues
pub mod Registers
pub mod text
pub mod code
