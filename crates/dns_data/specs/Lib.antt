pub mod internal
pub mod Error
pub mod Field
pub mod Wire
pub mod Text
pub mod Memory
pub mod rdata
