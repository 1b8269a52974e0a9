pub mod Lists
pub mod Covers
