pub mod Address
pub mod Bounds
pub mod Layout
pub mod Receive
pub mod Refusal
pub mod Texts
pub mod Transmit
