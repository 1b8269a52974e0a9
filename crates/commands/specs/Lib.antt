pub mod Digits
pub mod Frame
pub mod Decoding
pub mod Passing
pub mod Answers
pub mod Lists
pub mod Page
pub mod Replay
