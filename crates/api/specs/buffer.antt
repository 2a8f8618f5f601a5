pub mod Arguments
pub mod Buffer
