pub mod Fixed
pub mod Angle
pub mod Size
pub mod Location
pub mod Wire
pub mod Text
