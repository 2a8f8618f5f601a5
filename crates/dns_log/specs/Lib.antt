pub mod Entry
pub mod Json
