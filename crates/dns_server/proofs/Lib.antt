pub mod StreamLaws
pub mod PlaceLaws
pub mod PositionLaws
pub mod ZoneTableLaws
pub mod HistoryLaws
pub mod AddressLaws
pub mod MaintainingLaws
pub mod SetTtlLaws
pub mod SetTtlCodeLaws
pub mod OneTtlLaws
mod SetTtlRows
