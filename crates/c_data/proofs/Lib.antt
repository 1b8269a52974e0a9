pub mod Coming
pub mod Printing
pub mod Turns
