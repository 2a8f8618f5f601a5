pub mod Shown
pub mod Finding
pub mod ValueText
pub mod WordText
pub mod FormText
pub mod FaultText
pub mod WarningText
