pub mod Ask
pub mod Contract
