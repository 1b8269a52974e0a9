pub mod Records
pub mod Rule
pub mod Form
pub mod Plays
pub mod Ends
pub mod Steps
pub mod Meeting
pub mod Calls
