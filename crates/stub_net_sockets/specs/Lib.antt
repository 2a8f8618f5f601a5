pub mod SocketNetwork
pub mod RandomIds
