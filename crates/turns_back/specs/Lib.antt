pub mod Curve
pub mod Product
pub mod Call
pub mod Four
