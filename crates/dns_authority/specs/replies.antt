pub mod Reply
pub mod Malformed
pub mod WholeSets
pub mod Sending
pub mod TooMany
pub mod Responding
