pub mod Segment
pub mod Curve
pub mod Evaluation
pub mod Contract
