-- `sample_uniform`: by the tests on n.
use Rattle.std.proofs.Common.{ℕ, ◌%◌, ◌<◌, sym, ap, ◌∙◌, arith}
use Rattle.sampling.specs.core.Sample.{mod_not_power}
use Rattle.sampling.specs.laws.SampleLaws.{refused_at_zero, at_a_power, not_at_a_power}
use Rattle.sampling.proofs.sample.sample_uniform.Goals as goal

pub returns-then-n-eq0 : goal.returns-then-n-eq0
returns-then-n-eq0 c = let a = c.args in sym (refused_at_zero a.h a.n c.if-n-eq0.true)

pub mod_power_of_2-requires : goal.mod_power_of_2-requires
mod_power_of_2-requires c = sym c.is_power_of_two.ensures ∙ c.if-is_power_of_two.true

positive : (c : goal.After-mod_power_of_2) → 0 < c.args.n
positive c = omega arith

pub returns-then-is_power_of_two : goal.returns-then-is_power_of_two
returns-then-is_power_of_two c =
    let t = c in
    let w = t in
    let a = w.args in
    ap (λ (k : ℕ). (0, k)) (c.mod_power_of_2.ensures ∙ ap (λ (k : ℕ). k % a.n) w.u128_of-i.ensures.0)
    ∙ sym (at_a_power a.h a.n (positive w) (sym t.is_power_of_two.ensures ∙ t.if-is_power_of_two.true))

positive_2 : (c : goal.After-mod_not_power_of_2) → 0 < c.args.n
positive_2 c = omega arith

pub returns : goal.returns
returns c =
    let t = c in
    let w = t in
    let a = w.args in
    c.mod_not_power_of_2.ensures
    ∙ ap (λ (k : ℕ). mod_not_power k a.n) w.u128_of-i.ensures.1
    ∙ sym (not_at_a_power a.h a.n (positive_2 w) (sym t.is_power_of_two.ensures ∙ t.if-is_power_of_two.false))
