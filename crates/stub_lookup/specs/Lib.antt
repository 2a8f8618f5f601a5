pub mod Error
pub mod Lookup
pub mod LookupEquality
pub mod LookupIp
pub mod Outcome
pub mod internal
