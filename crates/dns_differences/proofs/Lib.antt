pub mod RecordLaws
pub mod DifferenceLaws
pub mod HistoryLaws
pub mod OctetLaws
pub mod SerialLaws
