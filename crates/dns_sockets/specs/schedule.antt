pub mod Schedule
pub mod internal
