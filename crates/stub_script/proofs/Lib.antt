pub mod HostLaws
pub mod LineLaws
pub mod ScriptLaws
pub mod ReplyLaws
pub mod GivenLaws
