pub mod Cuts
pub mod Decimals
pub mod Places
