pub mod GrantWitness
pub mod KeysWitness
pub mod MessageWitness
pub mod PlainZoneWitness
pub mod ZoneTextWitness
