pub mod Running
pub mod ControlStepping
pub mod Returning
pub mod receive
pub mod transmit
