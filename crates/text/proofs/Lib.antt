pub mod Writing
pub mod Words
pub mod Fields
pub mod Nan
pub mod Numbers
pub mod ReadBack
pub mod Pens
