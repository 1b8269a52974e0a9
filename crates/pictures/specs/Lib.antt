pub mod Pictures
pub mod States
pub mod NoteMembers
