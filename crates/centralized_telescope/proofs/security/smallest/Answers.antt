-- `smallest`: u will do, or none up to u will.
use Rattle.std.proofs.Common.{◌≡◌, ℕ, ◌+◌, ◌-◌, ◌*◌, ◌^◌, ◌<◌, ◌≤◌, length, sym, ap, ◌∙◌, subst, arith}
use Rattle.centralized_telescope.specs.inner.Digits.{number_in}
use Rattle.centralized_telescope.specs.laws.DigitsLaws.{base, power_up, room_for_more}
use Rattle.centralized_telescope.specs.laws.ProofSizeLaws.{found_here, none_here, none_at_all}
use Rattle.centralized_telescope.proofs.security.smallest.Goals as goal

pub times-requires : goal.times-requires
times-requires c =
    let l = c.loop-u in
    let A = number_in c.args.left.now in
    let k = c.args.n in
    subst (λ (m : ℕ). m * k < base ^ length l.left) (sym l.invariant.2)
    (subst (λ (m : ℕ). A * k ^ (l.u - 1) * k < base ^ m) (sym l.invariant.0)
    (room_for_more A k 1024 (l.u - 1) (base ^ length c.args.left.now) c.requires.0 (omega (arith, c.loop-u-test.true)) c.requires.3))

pub times-requires-in-loop-u : goal.times-requires-in-loop-u
times-requires-in-loop-u c =
    let l = c.loop-u in
    let B = number_in c.args.right.now in
    let k = c.args.f in
    subst (λ (m : ℕ). m * k < base ^ length l.right) (sym l.invariant.3)
    (subst (λ (m : ℕ). B * k ^ (l.u - 1) * k < base ^ m) (sym l.invariant.1)
    (room_for_more B k 1024 (l.u - 1) (base ^ length c.args.right.now) c.requires.1 (omega (arith, c.loop-u-test.true)) c.requires.4))

pub returns-then-not-is_below : goal.returns-then-not-is_below
returns-then-not-is_below c =
    let l = c.loop-u in
    let z = c.args in
    let one : 1 ≤ l.u = omega arith in
    found_here (number_in z.left.now) z.n (number_in z.right.now) z.f l.u _ _
    (c.times.ensures.1 ∙ ap (λ (m : ℕ). m * z.n) l.invariant.2 ∙ power_up (number_in z.left.now) z.n l.u one)
    (c.times-in-loop-u.ensures.1 ∙ ap (λ (m : ℕ). m * z.f) l.invariant.3 ∙ power_up (number_in z.right.now) z.f l.u one)
    l.invariant.4 one (omega (arith, c.loop-u-test.true)) (sym c.is_below.ensures ∙ c.if-not-is_below.true)

pub loop-u-preserved : goal.loop-u-preserved
loop-u-preserved c =
    let l = c.loop-u in
    let z = c.args in
    let A = number_in z.left.now in
    let B = number_in z.right.now in
    let one : 1 ≤ l.u = omega arith in
    let again : l.u + 1 - 1 ≡ l.u = omega arith in
    let L = c.times.ensures.1 ∙ ap (λ (m : ℕ). m * z.n) l.invariant.2 ∙ power_up A z.n l.u one in
    let R = c.times-in-loop-u.ensures.1 ∙ ap (λ (m : ℕ). m * z.f) l.invariant.3 ∙ power_up B z.f l.u one in (
      c.times.ensures.0 ∙ l.invariant.0,
      c.times-in-loop-u.ensures.0 ∙ l.invariant.1,
      rw again L,
      rw again R,
      none_here A z.n B z.f l.u _ _ L R l.invariant.4 (sym c.is_below.ensures ∙ c.if-not-is_below.false),
    )

pub returns : goal.returns
returns c =
    let l = c.loop-u in
    let z = c.args in
    none_at_all (number_in z.left.now) z.n (number_in z.right.now) z.f l.u (omega (arith, c.loop-u-test.false)) l.invariant.4
