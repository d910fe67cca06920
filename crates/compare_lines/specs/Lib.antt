pub mod CompareRecord
pub mod Listings
pub mod Inputs
pub mod Contract
