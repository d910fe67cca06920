pub mod Cubic
pub mod Exact
