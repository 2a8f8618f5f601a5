pub mod buffer
pub mod zones
pub mod messages
pub mod lookups
