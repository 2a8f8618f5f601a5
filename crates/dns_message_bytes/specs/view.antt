pub mod MessageView
pub mod NameView
pub mod QueryView
pub mod QueryViews
pub mod RecordView
pub mod RecordViews
pub mod Request
pub mod internal
