pub mod BoundLaws
pub mod FaultLaws
pub mod ReplyLaws
pub mod RunLaws
pub mod ScrubLaws
pub mod ScriptLaws
pub mod ScriptTimeLaws
pub mod TimeLaws
pub mod TryLaws
pub mod WaitLaws
mod ArrivalLaws
mod RepliedLaws
mod SignedLaws
mod SignedTimeLaws
mod ScrubWitness
mod SignedWitness
pub mod TimeWitness
