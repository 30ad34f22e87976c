-- The core: what prove and verify are made of, and demand 3 over both, in reading order.
pub mod Lists
pub mod Refusals
pub mod Params
pub mod Elements
pub mod LentLists
pub mod Rounds
pub mod Bins
pub mod Chains
pub mod Search
pub mod Prover
pub mod Verifier
pub mod Demand3
pub mod Exports
