pub mod Flows
pub mod Rings
pub mod Plans
pub mod ShownCounts
pub mod Stopped
pub mod LiveStatistics
