pub mod Cache
pub mod Ttl
pub mod TtlEquality
pub mod internal
