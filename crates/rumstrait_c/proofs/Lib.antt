mod FaultLaws
mod GivingLaws
pub mod HandleSteps
pub mod NullSteps
mod PrintLaws
pub mod ResolverSteps
pub mod UpdateSteps
