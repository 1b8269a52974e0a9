pub mod FieldLemmas
pub mod SplitLemmas
pub mod Steps
pub mod RoundTrip
pub mod Meaning
pub mod HexLength
pub mod FillLine
