pub mod Key
pub mod Table
pub mod Ttl
pub mod TtlEquality
