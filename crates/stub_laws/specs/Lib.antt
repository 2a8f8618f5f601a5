pub mod history
pub mod walk
pub mod answers
