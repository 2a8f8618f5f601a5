-- How contracts view the types of the code.
pub mod Source
pub mod Context
pub mod Word
pub mod Reading
