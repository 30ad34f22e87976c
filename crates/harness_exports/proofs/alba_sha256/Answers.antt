-- `alba_sha256`: refused by the length lent, or the answer of `sha256` copied.
use mathlib.Core.List.{◌++◌}
use Rattle.std.proofs.Common.{◌≡◌, ◌∙◌, arith}
use Rattle.sampling.specs.core.Hash.{hashed}
use Rattle.harness_exports.proofs.Answer.{refused, served}
use Rattle.harness_exports.proofs.alba_sha256.Goals as goal
use Rattle.harness_exports.proofs.alba_sha256.Goals.{in-Ok, in-Err}

pub returns-then-out-ne32 : goal.returns-then-out-ne32
returns-then-out-ne32 c =
    let z = c.args in
    refused (z.a.now ++ (z.b.now ++ (z.c.now ++ z.d.now))) z.out.now c.if-out-ne32.true

pub returns : goal.returns
returns c =
    let z = c.args in
    let m = z.a.now ++ (z.b.now ++ (z.c.now ++ z.d.now)) in
    let hash : c.match-sha256.number ≡ hashed m = elim c.match-sha256.branch [
      | in-Ok w ↦ w.number-is ∙ w.in-Ok.ensures
      | in-Err w ↦ w.number-is ∙ rw w.from.ensures w.in-Err.ensures
    ] in
    served m z.out.now _ _ _ (omega arith) hash c.copy_from_slice.ensures.after
