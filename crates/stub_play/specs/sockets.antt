pub mod SocketLink
pub mod SocketWorld
