pub mod Frame
pub mod ScriptError
pub mod Line
pub mod Script
pub mod Split
