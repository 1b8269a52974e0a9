pub mod Steps
pub mod Chosen
pub mod Loop
pub mod Whole
pub mod Tsresol
pub mod Parts
pub mod RoundTrip
pub mod Seeking
