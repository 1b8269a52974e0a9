pub mod Totals
mod Rules
pub mod Accounts
mod Filling
pub mod Moving
