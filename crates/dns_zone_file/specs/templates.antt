pub mod Number
pub mod Range
pub mod Template
