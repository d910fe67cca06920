pub mod Bound
pub mod Search
pub mod Trial
pub mod Twice
pub mod Contract
