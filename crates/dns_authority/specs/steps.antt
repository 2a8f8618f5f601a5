pub mod Barrier
pub mod Wildcard
pub mod Redirection
