pub mod Former
pub mod Answered
pub mod LogEntry
