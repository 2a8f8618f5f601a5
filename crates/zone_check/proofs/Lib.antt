pub mod EncodingLaws
pub mod ReportLaws
pub mod ScriptLaws
pub mod AppendLaws
pub mod ResultLaws
