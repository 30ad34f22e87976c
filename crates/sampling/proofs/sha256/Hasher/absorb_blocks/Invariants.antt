-- `absorb_blocks`: after k blocks the hash value is that after the first 64 * k bytes of the string.
use Rattle.std.proofs.Common.{◌≡◌, ℕ, ◌*◌, List, length, take}
use Rattle.sampling.specs.later.Hasher.{absorb_bytes}
use Rattle.sampling.proofs.sha256.Hasher.absorb_blocks.Given as goal

abbrev pub invariant-loop-k : goal.invariant-loop-k
invariant-loop-k l =
    (b : List ℕ) → length b ≡ 64
    → l.state ≡ (absorb_bytes (record { state = l.initial.state; block = b; len = l.self.len }) (take (64 * l.k) l.s)).state
