pub mod PlacesLaws
pub mod LimitLaws
pub mod LineLaws
pub mod OptionLaws
pub mod SettingLaws
