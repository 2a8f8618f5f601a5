-- What the functions of this crate keep, beside what a reader needs to believe.
pub mod Change
pub mod Node
pub mod Rise
pub mod Store
