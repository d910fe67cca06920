pub mod Along
pub mod Scan
pub mod TurnsBack
pub mod Verdicts
