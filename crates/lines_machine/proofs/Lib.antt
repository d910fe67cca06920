pub mod Whole
pub mod Breaking
pub mod Pushing
pub mod Feeding
