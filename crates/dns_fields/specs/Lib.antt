pub mod service
pub mod location
pub mod bitmaps
