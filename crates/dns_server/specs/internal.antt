pub mod SetTtls
pub mod ZoneTable
