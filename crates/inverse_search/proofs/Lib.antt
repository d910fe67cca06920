pub mod Along
pub mod Digits
pub mod Found
pub mod Listed
pub mod First
pub mod Glue
pub mod Sound
pub mod Fewer
