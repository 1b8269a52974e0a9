pub mod Chaining
pub mod Growing
pub mod Exchanging
pub mod Polling
pub mod Batching
pub mod Emptying
