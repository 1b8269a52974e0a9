mod Moving
pub mod Posted
