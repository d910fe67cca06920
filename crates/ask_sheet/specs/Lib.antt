pub mod Sheet
pub mod Contract
