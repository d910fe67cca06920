pub mod Ends
pub mod Call
pub mod Between
pub mod Which
pub mod Stops
pub mod Decides
