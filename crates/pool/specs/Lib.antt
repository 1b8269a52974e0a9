pub mod Bulk
pub mod Hands
pub mod Owned
pub mod Plays
pub mod Sharing
