pub mod Opportunistic
pub mod Options
pub mod RequestOptions
pub mod config
