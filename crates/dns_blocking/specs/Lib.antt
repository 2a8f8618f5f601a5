pub mod Calls
pub mod Serving
