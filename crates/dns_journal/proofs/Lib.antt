pub mod CrashLaws
pub mod OpeningLaws
pub mod EntryLaws
pub mod JournalLaws
pub mod TornLaws
