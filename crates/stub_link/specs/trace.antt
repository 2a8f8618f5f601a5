pub mod RequestNote
pub mod Trace
pub mod Verdict
