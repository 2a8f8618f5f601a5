pub mod internal
pub mod TypeWord
pub mod Update
pub mod Words
