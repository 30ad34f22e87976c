-- `alba_sample_uniform`: the refusals, then the draw's answer with what is lent.
use Rattle.sampling.proofs.ExportedAnswers.{n_refused, h_refused, out_refused, value_told, untouched}
use Rattle.sampling.proofs.exports.alba_sample_uniform.Goals as goal
use Rattle.sampling.proofs.exports.alba_sample_uniform.Goals.{then-h-ne16-via-then-h-ne16, then-h-ne16-via-else-h-ne16+then-out-ne8}

pub returns-then-n-eq0 : goal.returns-then-n-eq0
returns-then-n-eq0 c = let a = c.args in n_refused a.h.now a.n a.out.now c.if-n-eq0.true

pub returns-then-h-ne16 : goal.returns-then-h-ne16
returns-then-h-ne16 c =
    let a = c.args in
    elim c.then-h-ne16.branch [
      | then-h-ne16-via-then-h-ne16 w ↦ h_refused a.h.now a.n a.out.now c.if-n-eq0.false w.if-h-ne16.true
      | then-h-ne16-via-else-h-ne16+then-out-ne8 w ↦
          out_refused a.h.now a.n a.out.now c.if-n-eq0.false w.if-h-ne16.false w.if-out-ne8.true
    ]

pub returns-in-Ok-Some : goal.returns-in-Ok-Some
returns-in-Ok-Some c =
    let a = c.args in
    value_told a.h.now a.n a.out.now c.if-n-eq0.false c.if-h-ne16.false c.if-out-ne8.false _ c.seed_of.ensures _ _
    (rw c.in-Ok-Some.field-0-is at c.in-Ok-Some.ensures) c.write_number.ensures

pub returns-in-Ok-None : goal.returns-in-Ok-None
returns-in-Ok-None c =
    let a = c.args in
    untouched a.h.now a.n a.out.now c.if-n-eq0.false c.if-h-ne16.false c.if-out-ne8.false _ c.seed_of.ensures 0 0
    (rw c.in-Ok-None.field-0-is at c.in-Ok-None.ensures)

pub returns-in-Err : goal.returns-in-Err
returns-in-Err c =
    let a = c.args in
    untouched a.h.now a.n a.out.now c.if-n-eq0.false c.if-h-ne16.false c.if-out-ne8.false _ c.seed_of.ensures 6 0
    c.in-Err.ensures
