pub mod Fields
pub mod Entering
pub mod Inputs
pub mod Refusals
