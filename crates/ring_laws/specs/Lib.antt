pub mod States
pub mod Places
pub mod Lists
pub mod Frames
pub mod Queues
pub mod Schedules
pub mod Rings
pub mod Worlds
