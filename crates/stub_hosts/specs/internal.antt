pub mod HostKeys
pub mod Hosts
pub mod HostsFile
