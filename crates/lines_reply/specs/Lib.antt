pub mod Reply
pub mod Contract
