pub mod Endpoint
pub mod Servers
pub mod Answers
pub mod Table
