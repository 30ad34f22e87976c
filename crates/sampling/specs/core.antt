-- The core: the hash and the sampler that prove and verify are made of, in reading order.
pub mod FirstNumber
pub mod BigEndian
pub mod Fips180
pub mod Hash
pub mod Sample
pub mod Exports
