pub mod BlessLaws
pub mod ChangeLaws
pub mod CommonLengthLaws
pub mod LineLaws
pub mod PartLaws
pub mod ShortestLaws
pub mod TextLaws
pub mod WritingLaws
