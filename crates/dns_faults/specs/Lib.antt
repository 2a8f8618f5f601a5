pub mod Coded
pub mod Decided
pub mod Delivery
pub mod Edited
pub mod Truncated
pub mod rules
pub mod table
