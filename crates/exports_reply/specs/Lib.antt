pub mod Replies
pub mod Options
