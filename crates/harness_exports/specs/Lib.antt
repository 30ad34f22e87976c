-- The definitions that the contracts of `harness_exports` cite.
pub mod Exported
