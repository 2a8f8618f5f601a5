pub mod KeyChoice
pub mod Plain
pub mod Refusal
pub mod Signer
pub mod Verified
