-- `threshold_of`: by the test on q.
use Rattle.std.proofs.Common.{ℕ, sym, ap, ◌∙◌}
use Rattle.sampling.specs.laws.SampleLaws.{threshold_refused, threshold_at}
use Rattle.sampling.proofs.sample.threshold_of.Goals as goal

pub returns-then-is_outside_unit : goal.returns-then-is_outside_unit
returns-then-is_outside_unit c = let q = c.args.q in sym (threshold_refused q (sym c.is_outside_unit.ensures ∙ c.if-is_outside_unit.true))

pub unit_threshold-requires : goal.unit_threshold-requires
unit_threshold-requires c = sym c.is_outside_unit.ensures ∙ c.if-is_outside_unit.false

pub returns : goal.returns
returns c =
    let t = c in
    let q = t.args.q in
    ap (λ (x : ℕ). (0, x)) c.unit_threshold.ensures ∙ sym (threshold_at q (sym t.is_outside_unit.ensures ∙ t.if-is_outside_unit.false))
