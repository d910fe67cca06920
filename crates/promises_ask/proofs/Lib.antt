pub mod Fine
pub mod Answers
pub mod Reading
pub mod Tests
pub mod Asked
