-- Lemmas that the ghost members of impls cite.
pub mod Headers
pub mod Questions
