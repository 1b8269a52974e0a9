pub mod CommandLine
mod Built
pub mod DecodeWords
pub mod OnceWords
mod OptionRows
mod Options
mod OptionLists
mod Limits
pub mod ReplayWords
mod RequestParts
mod SaidWords
pub mod ForwardWords
mod ScheduleOptions
pub mod ScheduleWords
pub mod CoverWords
pub mod RecommendedWords
pub mod DriverWords
pub mod CaptureWords
pub mod ParsedCommands
