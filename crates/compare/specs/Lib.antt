pub mod Differences
pub mod Comparison
pub mod Printed
pub mod Contract
