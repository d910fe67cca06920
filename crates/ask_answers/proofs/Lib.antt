pub mod Questions
pub mod Answers
pub mod Jobs
pub mod Told
