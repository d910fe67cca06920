pub mod Numbers
pub mod Lerp
pub mod Whole
pub mod Number
