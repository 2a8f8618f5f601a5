pub mod FileLaws
pub mod WordLaws
pub mod GrantLaws
mod NameTextLaws
