-- Definitions that no public clause cites.
pub mod Name
pub mod LabelCompare
pub mod Compare
pub mod Parse
pub mod Symbol
pub mod Wire
