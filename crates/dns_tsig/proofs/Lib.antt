pub mod CoveredLaws
pub mod SkipLaws
pub mod VerifyLaws
pub mod HmacLaws
mod VerifiedLaws
