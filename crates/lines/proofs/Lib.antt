pub mod Saying
pub mod Replies
pub mod Again
