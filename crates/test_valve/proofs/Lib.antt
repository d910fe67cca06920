pub mod Textbook
pub mod Readings
