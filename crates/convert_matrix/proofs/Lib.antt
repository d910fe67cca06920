pub mod Inverses
pub mod Steps
