pub mod Names
pub mod Text
pub mod Signature
pub mod Places
pub mod Survey
pub mod Cuts
pub mod Digest
pub mod Warning
