pub mod There
pub mod Lines
pub mod Sheet
pub mod Decimals
pub mod Claims
pub mod Compare
pub mod Picture
pub mod Ask
