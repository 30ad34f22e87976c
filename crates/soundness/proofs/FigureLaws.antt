-- From the share to security figures: what settings made from them are, and the arithmetic.
use Rattle.std.specs.Prelude.{◌≡◌, refl, Bool, true, false, ◌&&◌, ℕ, ◌+◌, ◌*◌, ◌^◌, ◌≤◌, ◌<◌, min, T, leb, length, Float}
use Rattle.std.proofs.Common.{sym, ◌∙◌, subst, inl, inr, mul-le-mul_right, mul-le-mul, le_of_eq, mul-pos, le_of_mul-le-mul_right, arith, leb→le, pow-add, pow_pos, pow_mono}
use Rattle.std.proofs.Math.Path.{ap}
use Rattle.std.proofs.Math.Nat.{le_trans, one-le-pow, pow-le-pow_left}
use Rattle.std.specs.Float.Ieee.{is_nan, lt, of_int, round, add, mul, div}
use Rattle.std.specs.Float.Ieee.Fits.{and_l, and_r}
use Rattle.sampling.specs.later.Threshold.{outside, threshold, converted, xOf}
use Rattle.sampling.specs.core.Sample.{value_of}
use Rattle.centralized_telescope.specs.declared.params.Params.{Params}
use Rattle.centralized_telescope.specs.declared.params.SmallSettings.{SmallSettings}
use Rattle.centralized_telescope.specs.core.Params.{not_one_to}
use Rattle.centralized_telescope.specs.later.SmallCase.{ceil, as_double, L, before_ceil, search_width, probability, small_settings, no_settings}
use Rattle.centralized_telescope.specs.later.SmallCase.{proof_size_out, completeness_out, small_case}
use Rattle.centralized_telescope.specs.later.ProofSize.{figures_out, InRange, Smallest, SizeIs}
use Rattle.centralized_telescope.specs.laws.TestLaws.{each_up_to, from_computed}
use Rattle.centralized_telescope.specs.laws.ParamsLaws.{one_to}
use Rattle.centralized_telescope.specs.laws.ProofSizeLaws.{Ranges, ranges}
use Rattle.centralized_telescope.specs.laws.SmallCaseLaws.{proof_size_refused, completeness_refused, settings_given}
use Rattle.soundness.specs.Green.{how_many_functions, Made, SeldomBy, MadeByCalls}
use Rattle.soundness.specs.Green.{example_settings, GreenExample}
use Rattle.soundness.proofs.GreenLaws.{green_share}
use Rattle.soundness.proofs.ExampleLaws.{zeros_accepted}

-- ---- search_width is at most 80 × 1,024, and times X at most 5 × 2^128: computed for each u from 1 to 1,024

abbrev fits_at : ℕ → Bool
fits_at u = leb (search_width u) 81920 && leb (search_width u * value_of (xOf (probability (search_width u)))) (5 * 2 ^ 128)

computed : T (each_up_to fits_at 1024)
unfolding is_nan lt of_int round add mul div outside ceil as_double L before_ceil search_width probability threshold converted each_up_to
computed = tt

width_most : (u : ℕ) → 1 ≤ u → u ≤ 1024
    → (search_width u ≤ 81920) × (search_width u * value_of (xOf (probability (search_width u))) ≤ 5 * 2 ^ 128)
width_most u l h =
    let t = from_computed fits_at 1024 computed u l h in
    (leb→le _ _ (and_l (leb (search_width u) 81920) _ t), leb→le _ _ (and_r (leb (search_width u) 81920) _ t))

-- ---- what settings made from figures are

record Answered (u : ℕ) (c : Float) (small : SmallSettings) : Type 0 where
  size : (1 ≤ u) × (u ≤ 1024)
  settings : small ≡ small_settings u c

answered : (u : ℕ) (c : Float) (small : SmallSettings) → small_case u c ≡ (0, small) → Answered u c small
answered u c small e = go (proof_size_out u) refl (completeness_out c) refl
  where
    -- a refusal's number isn't 0
    never : (k : ℕ) → 0 < k → small_case u c ≡ (k, no_settings) → Answered u c small
    never k l r = let z : k ≡ 0 = ap (λ (w : ℕ × SmallSettings). w.0) (sym r ∙ e) in absurd (omega arith)

    go : (a : Bool) → proof_size_out u ≡ a → (b : Bool) → completeness_out c ≡ b → Answered u c small
    go true x b y = never 30 (omega arith) (proof_size_refused u c x)
    go false x true y = never 31 (omega arith) (completeness_refused u c x y)
    go false x false y =
        record { size = one_to x; settings = ap (λ (w : ℕ × SmallSettings). w.1) (sym e ∙ settings_given u c x y) }

module _ (s c n f : ℕ) (p : Params) (M : Made s c n f p) where
  abbrev u : ℕ
  u = p.proof_size

  range : Ranges s c n f
  range = ranges s c n f M.figures

  given : Answered u M.completeness M.small
  given = answered u M.completeness M.small M.answer

  width : (p.search_width ≤ 81920) × (p.search_width * value_of p.x ≤ 5 * 2 ^ 128)
  unfolding small_settings
  width = rw (M.width, M.chance, given.settings) (width_most u given.size.0 given.size.1)

  tries : p.max_retries ≤ c
  unfolding small_settings
  tries = le_trans (le_of_eq (M.retries ∙ ap (λ (z : SmallSettings). z.max_retries) given.settings)) M.rounded

  set_pos : 0 < p.set_size
  set_pos = let r = range.set_size.0 in let e = M.set in omega arith

sized : (s c n f u : ℕ) → SizeIs s c n f 0 u → InRange s c n f × Smallest s c n f u
sized s c n f u (inl (e, _, _)) = absurd (omega arith)
sized s c n f u (inr (inl (e, _, _, _))) = absurd (omega arith)
sized s c n f u (inr (inr (_, r, m))) = (r, m)

pub made_by_calls : MadeByCalls
unfolding small_settings
made_by_calls s c n f u completeness small size e answer =
    let z = sized s c n f u size in
    let same : small.proof_size ≡ u = ap (λ (w : SmallSettings). w.proof_size) (answered u completeness small answer).settings in
    record {
      figures = z.0;
      enough = rw same z.1.meets;
      completeness = completeness;
      rounded = le_of_eq e;
      small = small;
      answer = subst (λ (z : ℕ). small_case z completeness ≡ (0, small)) (sym same) answer;
      set = refl;
      retries = refl;
      width = refl;
      chance = refl;
    }

-- ---- the arithmetic, P being 2^s and g 2 or 4

-- the first term times P is at most 5 × 1,442,695 / (32 × 10^6), by the inequality; what is left of 1 / g is for the second
seldom_of : (C A m r d F X K P c Fu z g rest : ℕ) → 0 < A → 0 < m → g * 7213475 + rest ≡ 32000000
    → C * (A * (m * m)) ≤ (r * d * F * (X * m) + r * d * z * A) * K → F ≤ Fu → r ≤ c → d * X ≤ 5 * m
    → Fu * (P * 32) * c * 1000000 ≤ A * 1442695 → r * d * z * P * (g * 32000000) ≤ rest * (m * m)
    → C * (P * g) ≤ K
seldom_of C A m r d F X K P c Fu z g rest A+ m+ e h f rc dx meets second =
    let p = mul-le-mul_right (m * P * 32000000) (mul-le-mul (mul-le-mul rc f) dx) in
    let y = mul-le-mul_right (5 * (m * m)) meets in
    let first : r * d * F * (X * m) * P * 32000000 ≤ 7213475 * (A * (m * m)) = omega arith in
    let q = mul-le-mul_right A second in
    let one_if : r * d * F * (X * m) * P * 32000000 * g ≤ 7213475 * (A * (m * m)) * g = mul-le-mul_right g first in
    let all = ap (λ (v : ℕ). v * (A * (m * m))) e in
    let both : (r * d * F * (X * m) + r * d * z * A) * (P * g) * 32000000 ≤ 32000000 * (A * (m * m)) = omega arith in
    let t = mul-le-mul_right K both in
    let v = mul-le-mul_right (P * g * 32000000) h in
    let w : C * (P * g) * (32000000 * (A * (m * m))) ≤ K * (32000000 * (A * (m * m))) = omega arith in
    le_of_mul-le-mul_right w (mul-pos (omega arith) (mul-pos A+ (mul-pos m+ m+)))

-- the second term times P, at its greatest
second_most : (s limit r d u : ℕ) → s ≤ limit → r ≤ 1024 → d ≤ 81920 → u ≤ 1024
    → r * d * (u * u) * 2 ^ s ≤ 1024 * 81920 * (1024 * 1024) * 2 ^ limit
second_most s limit r d u l R D U = mul-le-mul (mul-le-mul (mul-le-mul R D) (mul-le-mul U U)) (pow_mono l)

-- ---- the claims

module _ (limit bits rest : ℕ) (whole : 2 ^ bits * 7213475 + rest ≡ 32000000)
    (room : 1024 * 81920 * (1024 * 1024) * 2 ^ limit * (2 ^ bits * 32000000) ≤ rest * (2 ^ 128 * 2 ^ 128)) where
  by_figures : SeldomBy limit bits
  by_figures s c n f p E M few fine sender made =
      let u = p.proof_size in
      let s' = min s limit in
      let low : s' ≤ s = omega arith in
      let size = (given s c n f p M).size in
      let range = range s c n f p M in
      let width = width s c n f p M in
      let tries = tries s c n f p M in
      let positive = set_pos s c n f p M in
      let fewer : length E ≤ p.set_size = rw M.set (le_trans few (lt_le range.bound.1)) in
      let meets : f ^ u * (2 ^ s * 32) * c * 1000000 ≤ p.set_size ^ u * 1442695 = rw M.set (rw (pow-add 2 s 5) at M.enough) in
      let most = second_most s' limit p.max_retries p.search_width u (omega arith)
      (le_trans tries range.completeness.1) width.0 size.1 in
      rw (pow-add 2 s' bits)
      (seldom_of _ (p.set_size ^ u) (2 ^ 128) p.max_retries p.search_width (length E ^ u) (value_of p.x) how_many_functions
      (2 ^ s') c (f ^ u) (u * u) (2 ^ bits) rest (one-le-pow u p.set_size positive) (pow_pos 128) whole
      (green_share p E fewer fine sender made) (pow-le-pow_left few u) tries width.1
      (le_trans (less (f ^ u) c (pow_mono low)) meets)
      (le_trans (mul-le-mul_right (2 ^ bits * 32000000) most) room))
    where
      lt_le : {a b : ℕ} → a < b → a ≤ b
      lt_le l = omega arith

      less : (a c : ℕ) {x y : ℕ} → x ≤ y → a * (x * 32) * c * 1000000 ≤ a * (y * 32) * c * 1000000
      less a c {x} {y} l = let z = mul-le-mul_right (a * c * 32000000) l in omega arith

pub up_to_207 : SeldomBy 207 1
up_to_207 = by_figures 207 1 17573050 refl (leb→le _ _ tt)

pub up_to_204 : SeldomBy 204 2
up_to_204 = by_figures 204 2 3146100 refl (leb→le _ _ tt)

-- ---- the example

rounded_two : ceil (as_double 2) ≡ 2
unfolding of_int round ceil as_double
rounded_two = refl

lawful_two : completeness_out (as_double 2) ≡ false
unfolding is_nan lt of_int round outside as_double
lawful_two = refl

width_one : search_width 1 ≡ 80
unfolding of_int round mul ceil as_double L before_ceil search_width
width_one = refl

in_range : InRange 9 2 32768 1
unfolding figures_out not_one_to
in_range = refl

made_example : Made 9 2 32768 1 example_settings
unfolding small_settings not_one_to
made_example = record {
  figures = in_range;
  enough = leb→le (1 ^ 1 * 2 ^ (9 + 5) * 2 * 1000000) (32768 ^ 1 * 1442695) tt;
  completeness = as_double 2;
  rounded = le_of_eq rounded_two;
  small = small_settings 1 (as_double 2);
  answer = settings_given 1 (as_double 2) refl lawful_two;
  set = refl;
  retries = sym rounded_two;
  width = sym width_one;
  chance = ap (λ (d : ℕ). xOf (probability d)) (sym width_one);
}

pub green_example : GreenExample
green_example = (made_example, zeros_accepted)
