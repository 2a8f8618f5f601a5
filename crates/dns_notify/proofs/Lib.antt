pub mod SecondaryLaws
pub mod NotificationLaws
pub mod MessageLaws
