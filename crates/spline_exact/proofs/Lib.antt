mod Horner
pub mod Segment
pub mod Call
pub mod Bspline
