pub mod Faults
pub mod Serving
pub mod Transport
pub mod Zones
