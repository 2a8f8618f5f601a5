mod FrontLaws
mod AlikeLaws
pub mod AdditionalLaws
pub mod AskedLaws
pub mod OrderLaws
pub mod TypesLaws
pub mod ChainLaws
pub mod CopyLaws
pub mod ExistenceLaws
pub mod OriginLaws
pub mod OriginWitness
pub mod PlainLaws
mod SoundLaws
pub mod SourceLaws
pub mod StepLaws
pub mod SetIndexLaws
pub mod BarrierLaws
pub mod EncloserLaws
pub mod StepsExistenceLaws
pub mod RedirectionLaws
pub mod WildcardLaws
pub mod RepliesFrontLaws
pub mod MalformedLaws
pub mod RespondingLaws
pub mod SendingLaws
pub mod WholeSetsLaws
pub mod TooManyLaws
pub mod SentLaws
