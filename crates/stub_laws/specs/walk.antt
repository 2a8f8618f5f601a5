pub mod Walk
pub mod Answered
pub mod Agreement
