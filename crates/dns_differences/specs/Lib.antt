pub mod Difference
pub mod History
pub mod serials
