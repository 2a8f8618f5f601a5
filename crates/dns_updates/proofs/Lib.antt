pub mod Walks
pub mod SetLaws
pub mod CodeLaws
pub mod DataSetLaws
pub mod RequiredLaws
pub mod ChangeLaws
pub mod ChangedLaws
pub mod ListingLaws
pub mod OwnerCodeLaws
pub mod PlaceLaws
pub mod FrontLaws
pub mod UpdateLaws
pub mod PutLaws
mod UpdateRows
mod VoidLaws
mod PrerequisiteLaws
