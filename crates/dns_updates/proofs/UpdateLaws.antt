-- Lemmas on dynamic updates.
pub mod Maps
pub mod Lists
pub mod Codes
pub mod Sets
pub mod Deletions
pub mod Kept
pub mod Laws
