pub mod Configs
pub mod ConfigFaults
pub mod Thresholds
