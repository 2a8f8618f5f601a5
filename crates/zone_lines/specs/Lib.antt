pub mod Source
pub mod Line
pub mod Skip
pub mod Word
pub mod Dotless
pub mod Reading
pub mod internal
pub mod warnings
