pub mod Beginning
pub mod Compacting
pub mod Opening
pub mod Payloads
pub mod Updating
