mod FaultLaws
mod ServingLaws
mod DataLaws
mod TokenLaws
mod UpdateLaws
mod ServerLaws
mod TableLaws
