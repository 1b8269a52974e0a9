pub mod Told
pub mod Frames
pub mod Receive
pub mod ReceiveStates
pub mod Transmit
pub mod TransmitStates
pub mod Postings
pub mod Worlds
