mod Refusing
pub mod Endings
pub mod CaptureEndings
mod Sums
pub mod RunEndings
