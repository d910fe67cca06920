pub mod Labels
pub mod Lines
