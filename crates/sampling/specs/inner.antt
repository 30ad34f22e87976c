-- What inner functions promise each other.
pub mod HashInner
pub mod LastBlocksInner
