pub mod Machine
pub mod Following
