mod Places
pub mod Pairs
pub mod Plans
pub mod Walking
mod FlowFrames
pub mod Stopped
pub mod Continuing
pub mod Moving
pub mod Whole
