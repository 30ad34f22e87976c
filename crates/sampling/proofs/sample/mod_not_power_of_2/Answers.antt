-- `mod_not_power_of_2`: the two tests tell whether i comes to D * n.
use Rattle.std.proofs.Common.{ℕ, ◌-◌, ◌^◌, ◌<◌, ◌≤◌, ap, ◌∙◌, subst, arith}
use Rattle.sampling.proofs.FullHalves.{none_near_the_top, value_below_it, value_at_a_lower_half}
use Rattle.sampling.proofs.sample.mod_not_power_of_2.Goals as goal
use Rattle.sampling.proofs.sample.mod_not_power_of_2.Goals.{then-i-eq18446744073709551615+else-i-m, else-i-eq18446744073709551615}

pub returns-then-i-m : goal.returns-then-i-m
returns-then-i-m c =
    let a = c.args in
    let near : 2 ^ 64 - 1 - a.i.lo ≤ c.mod_u128-m.result = omega arith in
    none_near_the_top a.n a.i.hi a.i.lo c.if-i-eq18446744073709551615.true
    (subst (λ (k : ℕ). 2 ^ 64 - 1 - a.i.lo ≤ k) c.mod_u128-m.ensures near)

pub returns : goal.returns
returns c =
    let a = c.args in
    ap (λ (k : ℕ). (0, k)) c.mod_u128.ensures
    ∙ elim c.if-i-eq18446744073709551615.branch [
      | then-i-eq18446744073709551615+else-i-m w ↦
          value_below_it a.n a.i.hi a.i.lo w.if-i-eq18446744073709551615.true
          (subst (λ (k : ℕ). k < 2 ^ 64 - 1 - a.i.lo) w.mod_u128-m.ensures w.if-i-m.false)
      | else-i-eq18446744073709551615 w ↦
          value_at_a_lower_half a.n a.i.hi a.i.lo c.requires (omega arith) (omega arith) (omega arith)
    ]
