pub mod Edits
pub mod Fault
pub mod Rule
pub mod Table
