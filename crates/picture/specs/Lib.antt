pub mod Picture
pub mod Program
pub mod Contract
