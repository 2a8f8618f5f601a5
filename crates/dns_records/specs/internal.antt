-- Lemmas that the ghost members of impls cite.
pub mod DataIndex
pub mod Equality
pub mod Pieces
pub mod Records
