-- Definitions that no public clause cites.
pub mod NameParts
pub mod PlainNames
pub mod RecordFields
