pub mod Uneven
pub mod Claims
