-- `number_of`: v is what the first i bytes make.
use Rattle.std.proofs.Common.{◌≡◌, ◌^◌, ◌<◌}
use Rattle.sampling.specs.core.BigEndian.{big_endian}
use Rattle.sampling.proofs.big_endian.number_of.Given as goal

abbrev pub invariant-loop-byte : goal.invariant-loop-byte
invariant-loop-byte l = (l.v ≡ big_endian l.byte-index l.bytes) × (l.v < 256 ^ l.byte-index)
