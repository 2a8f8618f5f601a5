pub mod Request
pub mod ZoneHistory
pub mod Incremental
pub mod Signing
pub mod Reply
pub mod Recording
