-- What the theorems of `soundness` say, in reading order. What follows from it stands in laws/: it needn't be believed.
pub mod AnyHash
pub mod Functions
pub mod Green
pub mod laws
