pub mod Cases
pub mod Call
