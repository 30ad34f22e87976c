-- The laws that the proofs of `sampling` share, by the source file that they serve.
-- big_endian.rt, sha256.rt
mod Written
mod BytesRead
-- sha256.rt
mod Schedule
mod Rounds
mod Absorbing
mod MessageEnd
-- sample.rt
mod Remainder
mod PowerOfTwo
mod TwoHalves
mod FullHalves
mod ThresholdBits
-- exports.rt
mod ExportedAnswers
