pub mod Begun
pub mod Holding
