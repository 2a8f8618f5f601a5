pub mod EntryLaws
pub mod FileLaws
pub mod HostKeyLaws
pub mod HostsLaws
pub mod KeptLaws
pub mod LinesLaws
pub mod PointerLaws
pub mod WordsLaws
