pub mod Builder
pub mod Parts
