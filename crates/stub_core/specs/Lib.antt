pub mod AttemptedNames
pub mod Attempts
pub mod Origins
pub mod Outcomes
pub mod Resolver
pub mod ResolverBuilder
pub mod Strategies
