-- `joined`: the four strings one behind the other, and the padding behind them.
use Rattle.std.proofs.Common.{◌≡◌, ◌+◌, ◌++◌, length, refl, ◌∙◌, arith, length-append}
use Rattle.sampling.specs.core.Fips180.{padded}
use Rattle.sampling.proofs.MessageEnd.{four_laid, padding_laid}
use Rattle.sampling.proofs.sha256.joined.Goals as goal

pub returns : goal.returns
unfolding padded
returns c =
    let z = c.args in
    let t = z.a.now ++ (z.b.now ++ (z.c.now ++ z.d.now)) in
    let n : length z.a.now + length z.b.now + length z.c.now + length z.d.now
    ≡ length t = simp length-append (omega arith) in
    c.pad.ensures
    ∙ rw (
      c.with_bytes.ensures,
      c.with_bytes-three.ensures,
      c.with_bytes-two.ensures,
      c.with_bytes-one.ensures,
      four_laid z.a.now z.b.now z.c.now z.d.now (omega arith),
      n,
    )
    (padding_laid t (length t) (length t) refl (omega arith) refl)
