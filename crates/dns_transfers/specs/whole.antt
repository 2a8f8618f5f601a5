pub mod ZoneRecords
pub mod Request
pub mod Reply
