pub mod Ring
pub mod Steps
pub mod Lawful
pub mod Laws
pub mod Agreement
