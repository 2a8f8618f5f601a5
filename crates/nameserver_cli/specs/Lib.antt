pub mod Addresses
pub mod Arguments
pub mod DurableArguments
pub mod Ending
pub mod Options
pub mod replay
