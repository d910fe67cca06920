pub mod Cases
pub mod Swap
pub mod Twice
pub mod Own
pub mod Examples
