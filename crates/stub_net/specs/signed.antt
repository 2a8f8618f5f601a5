pub mod Arrival
pub mod Reply
pub mod Run
pub mod Signed
pub mod Update
