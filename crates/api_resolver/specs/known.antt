pub mod Known
pub mod Answered
pub mod Progress
