-- Definitions that no public clause cites.
pub mod DataOrder
pub mod Equality
pub mod Order
pub mod Text
