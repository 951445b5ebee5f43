pub mod Answers
pub mod Numbers
pub mod Statuses
pub mod Streams
