-- What the functions of this crate keep, beside what a reader needs to believe.
pub mod Indexes
pub mod Required
pub mod OwnerKeys
pub mod First
