pub mod Reports
pub mod Stepping
pub mod Reached
pub mod Postings
pub mod PostingRows
