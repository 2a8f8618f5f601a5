pub mod Hosts
pub mod HostsFile
pub mod internal
