pub mod Actions
pub mod Code
pub mod Keyword
pub mod Line
pub mod Text
