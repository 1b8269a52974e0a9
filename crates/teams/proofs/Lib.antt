mod Dealt
pub mod Lists
mod Together
mod Keeps
