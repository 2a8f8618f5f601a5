-- Definitions that no public clause cites.
pub mod Front
pub mod Lexer
pub mod Ttl
