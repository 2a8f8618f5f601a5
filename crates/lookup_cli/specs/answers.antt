pub mod Answer
pub mod GivenText
pub mod Item
pub mod Json
pub mod JsonRecords
pub mod Plain
pub mod Status
