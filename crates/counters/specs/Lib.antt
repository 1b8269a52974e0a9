pub mod Kinds
pub mod Paired
pub mod Snapshots
pub mod Rule
pub mod Viewed
pub mod Cells
pub mod FlowCounters
pub mod Registers
