-- `proof_size`: the two numbers at u = 0, then the search.
use Rattle.std.proofs.Common.{◌≡◌, ℕ, ◌*◌, ◌^◌, ◌<◌, length, sym, ap, ◌∙◌, subst, arith}
use Rattle.centralized_telescope.specs.inner.Digits.{number_in}
use Rattle.centralized_telescope.specs.laws.DigitsLaws.{base, one_digit}
use Rattle.centralized_telescope.specs.laws.ProofSizeLaws.{ranges, left_room, first_room, doubled_room, right_room, size_told}
use Rattle.centralized_telescope.proofs.security.proof_size.Goals as goal

pub overflow_cast-c : goal.overflow_cast-c
overflow_cast-c c =
    omega (arith, (ranges _ _ _ _ (sym c.is_figure_out.ensures ∙ c.if-is_figure_out.false)).completeness)

pub overflow_mul-c : goal.overflow_mul-c
overflow_mul-c c =
    omega (arith, (ranges _ _ _ _ (sym c.is_figure_out.ensures ∙ c.if-is_figure_out.false)).completeness)

pub times-requires : goal.times-requires
times-requires c =
    let z = c.args in
    let r = ranges z.s z.c z.n z.f (sym c.is_figure_out.ensures ∙ c.if-is_figure_out.false) in
    subst (λ (m : ℕ). m * (32 * z.c) < base ^ 512) (sym (one_digit 511 1000000)) (first_room z.c r.completeness.1)

pub double-requires : goal.double-requires
double-requires c =
    let z = c.args in
    let r = ranges z.s z.c z.n z.f (sym c.is_figure_out.ensures ∙ c.if-is_figure_out.false) in
    let product : number_in c.times.new.digits ≡ 1000000 * (32 * z.c)
    = c.times.ensures.1 ∙ ap (λ (m : ℕ). m * (32 * z.c)) (one_digit 511 1000000) in
    subst (λ (m : ℕ). m * 2 ^ z.s < base ^ length c.times.new.digits) (sym product)
    (subst (λ (k : ℕ). 1000000 * (32 * z.c) * 2 ^ z.s < base ^ k) (sym c.times.ensures.0)
    (doubled_room z.s z.c r.soundness r.completeness.1))

pub overflow_cast-n : goal.overflow_cast-n
overflow_cast-n c = omega (arith, (ranges _ _ _ _ (sym c.is_figure_out.ensures ∙ c.if-is_figure_out.false)).set_size)

pub overflow_cast-f : goal.overflow_cast-f
overflow_cast-f c =
    let r = ranges _ _ _ _ (sym c.is_figure_out.ensures ∙ c.if-is_figure_out.false) in
    omega (arith, r.set_size, r.bound)

-- the number on the right when the search begins
doubled : (c : goal.After-right-5-1) → number_in c.double.new.digits ≡ 1000000 * (32 * c.args.c) * 2 ^ c.args.s
doubled c =
    c.double.ensures.1
    ∙ ap (λ (m : ℕ). m * 2 ^ c.args.s) (c.times.ensures.1 ∙ ap (λ (m : ℕ). m * (32 * c.args.c)) (one_digit 511 1000000))

pub smallest-requires : goal.smallest-requires
smallest-requires c =
    let z = c.args in
    let r = ranges z.s z.c z.n z.f (sym c.is_figure_out.ensures ∙ c.if-is_figure_out.false) in
    let long : length c.double.new.digits ≡ 512 = c.double.ensures.0 ∙ c.times.ensures.0 in (
      omega (arith, r.set_size),
      r.bound.0,
      sym long,
      subst (λ (m : ℕ). m * z.n ^ 1024 < base ^ 512) (sym (one_digit 511 1442695)) (left_room z.n r.set_size.1),
      subst (λ (m : ℕ). m * z.f ^ 1024 < base ^ length c.double.new.digits) (sym (doubled c))
          (subst (λ (k : ℕ). 1000000 * (32 * z.c) * 2 ^ z.s * z.f ^ 1024 < base ^ k) (sym long)
          (right_room z.s z.c r.soundness r.completeness.1 z.f (omega (arith, r.set_size, r.bound)))),
    )

pub returns : goal.returns
returns c =
    let z = c.args in
    let B : number_in c.double.new.digits ≡ 1000000 * (32 * z.c) * 2 ^ z.s
    = c.double.ensures.1
    ∙ ap (λ (m : ℕ). m * 2 ^ z.s) (c.times.ensures.1 ∙ ap (λ (m : ℕ). m * (32 * z.c)) (one_digit 511 1000000)) in
    rw c.ok_or.ensures.value
    (size_told z.s z.c z.n z.f (sym c.is_figure_out.ensures ∙ c.if-is_figure_out.false) _ _ (one_digit 511 1442695) B c.smallest.result
    c.smallest.ensures)
