pub mod Joined
pub mod Ends
pub mod Passed
pub mod Unmade
pub mod Cutting
pub mod Replaying
pub mod ListPages
pub mod Endings
