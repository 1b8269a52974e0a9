pub mod Snoc
pub mod PlaceTests
pub mod Slots
pub mod Telling
pub mod Fitting
pub mod ControlStepping
pub mod Running
pub mod Owning
