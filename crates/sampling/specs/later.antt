-- What is read later, over the core, in reading order: no answer of prove or verify needs it.
pub mod Threshold
pub mod Hasher
