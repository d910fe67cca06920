pub mod Many
pub mod Contract
