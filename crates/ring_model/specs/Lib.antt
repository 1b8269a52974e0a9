pub mod shared
pub mod receive
pub mod transmit
pub mod NoteTexts
pub mod Worlds
pub mod kept
pub mod rows
