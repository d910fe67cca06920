pub mod Scan
pub mod Lowest
pub mod Verdicts
pub mod Call
pub mod Readings
