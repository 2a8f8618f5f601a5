pub mod Conf
pub mod Limits
pub mod Line
pub mod Options
pub mod Settings
