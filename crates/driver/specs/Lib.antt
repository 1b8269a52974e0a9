pub mod Steps
pub mod Handshake
pub mod Reclaiming
pub mod receive
pub mod transmit
