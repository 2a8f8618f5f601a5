pub mod Report
pub mod ReportJson
pub mod ReportMembers
pub mod ReportText
