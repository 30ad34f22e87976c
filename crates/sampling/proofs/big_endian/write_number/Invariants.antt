-- `write_number`: what is left of v in the first k bytes, before those that are written, makes the bytes of v.
use Rattle.std.proofs.Common.{◌≡◌, ◌++◌, length, drop}
use Rattle.sampling.specs.core.BigEndian.{bytes_of}
use Rattle.sampling.proofs.big_endian.write_number.Given as goal

abbrev pub invariant-loop-k : goal.invariant-loop-k
invariant-loop-k l = bytes_of l.k l.rest ++ drop l.k l.out ≡ bytes_of (length l.initial.out) l.v
