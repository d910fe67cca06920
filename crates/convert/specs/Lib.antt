pub mod Output
pub mod Conversion
pub mod Buffer
pub mod Contract
