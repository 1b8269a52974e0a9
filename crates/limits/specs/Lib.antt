pub mod RingLength
pub mod FillSize
