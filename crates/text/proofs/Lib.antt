-- The laws that the proofs of `text` share.
mod DecimalLaws
mod HexRead
mod WordsRead
