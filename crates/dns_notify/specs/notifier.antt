pub mod Notification
pub mod Response
pub mod Notifier
pub mod Follower
