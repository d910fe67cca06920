pub mod Curve
pub mod Faults
pub mod Told
pub mod Contract
