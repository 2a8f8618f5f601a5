pub mod Key
pub mod Wire
pub mod Address
pub mod List
pub mod Parameter
pub mod Text
