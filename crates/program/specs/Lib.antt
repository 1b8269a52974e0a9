pub mod Forwards
pub mod CaptureForwards
pub mod ShownSums
pub mod RateLines
pub mod RunEnds
