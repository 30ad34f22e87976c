-- `hash_short`: the strings joined with their padding, in blocks.
use Rattle.std.proofs.Common.{◌≡◌, ◌+◌, ◌/◌, ◌++◌, length, sym, ◌∙◌, arith, length-append}
use Rattle.sampling.specs.core.Fips180.{H₀, padded}
use Rattle.sampling.specs.laws.HashLaws.{length_padded, sha256_in_blocks}
use Rattle.sampling.proofs.MessageEnd.{read_whole}
use Rattle.sampling.proofs.sha256.hash_short.Goals as goal

pub returns : goal.returns
returns c =
    let z = c.args in
    let m = z.a.now ++ (z.b.now ++ (z.c.now ++ z.d.now)) in
    let n : length z.a.now + length z.b.now + length z.c.now + length z.d.now
    ≡ length m = simp length-append (omega arith) in
    c.last_blocks.ensures
    ∙ rw (
      c.joined-m.ensures,
      c.initial.ensures,
      n,
      read_whole H₀ (padded m) ((length m + 72) / 64) (omega (arith, length_padded m)),
    )
    (sym (sha256_in_blocks m))
