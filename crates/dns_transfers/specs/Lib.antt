pub mod Records
pub mod Message
pub mod Sending
pub mod whole
pub mod incremental
pub mod replies
