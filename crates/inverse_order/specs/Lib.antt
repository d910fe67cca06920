pub mod Order
pub mod Contract
