mod Lines
mod Totals
pub mod Piping
mod Passing
mod Captures
pub mod Scripts
mod Records
