pub mod Decoding
pub mod Replaying
pub mod Lists
pub mod Conversions
pub mod Files
pub mod Refusals
pub mod Answers
