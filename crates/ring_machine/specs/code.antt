pub mod Sound
pub mod TxSound
pub mod Shared
pub mod Receive
pub mod Transmit
pub mod Words
pub mod Fields
pub mod Obstacles
