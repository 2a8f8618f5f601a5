-- How contracts view the types of the code.
pub mod Data
pub mod Error
pub mod Fields
pub mod Entry
pub mod Generate
pub mod Context
pub mod Parsing
pub mod SetIndex
