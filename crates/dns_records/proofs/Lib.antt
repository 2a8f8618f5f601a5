mod DataIndexLaws
mod ListLaws
mod PutLaws
mod RecordSetLaws
mod RecordsLaws
pub mod RefusalLaws
pub mod Steps
pub mod OrderLaws
mod PlaceLaws
mod EntryLaws
