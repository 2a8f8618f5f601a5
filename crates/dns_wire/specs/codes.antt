pub mod RecordType
pub mod DNSClass
pub mod SerialNumber
pub mod Decimal
pub mod CodeText
