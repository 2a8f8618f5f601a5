pub mod Given
pub mod PlayFault
pub mod Plays
pub mod Program
pub mod Words
pub mod sockets
pub mod report
