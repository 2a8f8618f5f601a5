pub mod Answering
