pub mod Appending
pub mod Event
pub mod Memory
pub mod Opening
pub mod Storage
pub mod format
