pub mod Labels
pub mod Bends
pub mod Doubles
pub mod Texts
pub mod Telling
pub mod Words
