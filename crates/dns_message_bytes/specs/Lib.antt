pub mod view
pub mod soundness
pub mod frames
