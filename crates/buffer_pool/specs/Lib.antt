pub mod Buffer
pub mod Chain
pub mod Held
pub mod Hung
pub mod Packed
pub mod Shelf
pub mod Stocked
