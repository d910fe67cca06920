pub mod Finds
pub mod Contract
