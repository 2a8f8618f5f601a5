pub mod Missing
pub mod Path
