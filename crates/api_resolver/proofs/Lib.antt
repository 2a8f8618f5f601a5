mod AskLaws
mod LookupLaws
mod ReplayLaws
mod ProgressLaws
