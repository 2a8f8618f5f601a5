-- Definitions and lemmas that no public clause cites.
pub mod NumberLaws
pub mod Sections
pub mod Suffixes
