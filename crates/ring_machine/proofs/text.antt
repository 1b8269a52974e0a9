pub mod ArgumentFields
pub mod MoveLines
pub mod MoveQueues
