pub mod LookupEquality
