pub mod Listed
pub mod Rebuilt
pub mod Same
pub mod ReadBack
pub mod Printed
pub mod Writing
