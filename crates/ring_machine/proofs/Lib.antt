pub mod shared
pub mod receive
pub mod transmit
pub mod SideBySide
pub mod Reading
pub mod QueuesRunning
pub mod text
pub mod Obstacles
