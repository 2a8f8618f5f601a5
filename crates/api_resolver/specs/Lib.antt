pub mod Replay
pub mod Exchange
pub mod Lookup
pub mod known
