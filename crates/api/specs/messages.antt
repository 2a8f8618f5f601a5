pub mod Data
pub mod Items
pub mod Messages
pub mod Questions
pub mod Tokens
pub mod Updates
