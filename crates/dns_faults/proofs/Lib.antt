pub mod CodedLaws
pub mod TruncatedLaws
pub mod EditLaws
pub mod DecidedLaws
pub mod TableLaws
pub mod WordLaws
