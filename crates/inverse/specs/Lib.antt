pub mod EndRule
pub mod Curve
pub mod Inverse
pub mod Contract
