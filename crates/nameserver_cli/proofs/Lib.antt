mod RequestLaws
pub mod ValueLaws
