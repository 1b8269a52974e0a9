pub mod Begun
pub mod Growing
