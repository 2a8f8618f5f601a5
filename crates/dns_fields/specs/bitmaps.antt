pub mod Bitmap
pub mod Base32
pub mod TypeWord
