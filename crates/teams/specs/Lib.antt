pub mod Gates
pub mod Numbers
pub mod Refusals
pub mod Endings
pub mod Hands
pub mod Dealing
pub mod Passes
pub mod Rule
