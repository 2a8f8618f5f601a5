pub mod IdLaws
pub mod ClockLaws
mod ClockWitness
