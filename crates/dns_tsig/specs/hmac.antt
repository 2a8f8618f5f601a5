pub mod Algorithm
pub mod Hasher
pub mod Hmac
