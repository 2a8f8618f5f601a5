pub mod Code
pub mod Executed
pub mod Same
pub mod Whole
