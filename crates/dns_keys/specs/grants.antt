pub mod Grant
