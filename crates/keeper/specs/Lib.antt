pub mod Table
pub mod Contract
