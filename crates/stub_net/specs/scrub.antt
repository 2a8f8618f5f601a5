-- Replies with what their questions lead to.
pub mod Scrub
