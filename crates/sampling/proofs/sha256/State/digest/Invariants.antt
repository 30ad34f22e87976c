-- `digest`: the bytes of the first n words are there.
use Rattle.std.proofs.Common.{◌≡◌, ◌*◌, length, take}
use Rattle.sampling.specs.core.Fips180.{word_bytes}
use Rattle.sampling.proofs.sha256.State.digest.Given as goal

abbrev pub invariant-loop-n : goal.invariant-loop-n
invariant-loop-n l = (length l.d ≡ 32) × (take (4 * l.n) l.d ≡ word_bytes (take l.n l.word-items))
