pub mod Mix
pub mod Contract
