pub mod Server
pub mod Servers
pub mod ServerList
pub mod resolv_conf
