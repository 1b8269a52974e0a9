pub mod Cutting
pub mod Fresh
pub mod Stepping
pub mod Growing
pub mod Laying
pub mod Putting
pub mod PuttingInto
