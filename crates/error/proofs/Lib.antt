pub mod First
pub mod Numbers
pub mod Orders
pub mod Found
pub mod Exits
