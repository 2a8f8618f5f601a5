pub mod DifferenceRecords
pub mod Messages
pub mod Reading
pub mod Versions
