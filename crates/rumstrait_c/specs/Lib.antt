pub mod Codes
pub mod Zones
pub mod Updates
pub mod Waits
pub mod Lookups
