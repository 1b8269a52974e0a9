pub mod Counting
pub mod Handles
pub mod Held
pub mod Lent
pub mod Pairs
pub mod Stashes
pub mod batches
pub mod rings
