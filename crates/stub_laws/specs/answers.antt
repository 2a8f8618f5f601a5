pub mod Claims
pub mod Standing
pub mod Failing
pub mod Lookups
pub mod Ends
pub mod Steady
pub mod Sources
