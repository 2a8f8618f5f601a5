pub mod Retries
pub mod Secondary
pub mod Notifications
pub mod notifier
