-- The threshold from the bits of a double. A double whose exponent's field is x, from 1 to 2046, is q * 2 ^ (x - 1075), with q its digits
-- under a leading one: so X is the smaller of q * 2 ^ (x + 127) / 2 ^ 1074 and 2 ^ 128 - 1, and shifts of q make its two halves.
use Rattle.std.proofs.Common.{◌≡◌, ℕ, zero, suc, ◌+◌, ◌-◌, ◌*◌, ◌/◌, ◌%◌, ◌^◌, ◌<◌, ◌≤◌, min, Bool, true, false, cond, not, T, eqb, leb, sym, refl, ap, ◌∙◌, subst, inl, inr, le_trans, le_of_eq, lt_of_lt_of_le, le-add_right, lt_of_le_of_lt, add-zero, lt_irrefl, mul-le-mul_right, mod-lt, mul_assoc, eq-or-lt_of_le, zero-add, mul_right_comm, arith, lit≤, eqb→eq, pow_pos, pow_mono, pow-add, shl_lt, shl_exact, shr-shr}
use native.Mathlib.Nat.{div-eq_of_lt}
use lib.Dec.{not_T}
use lib.Pow.{shl-shr, shr_le, split, field}
use lib.Ieee.{Float, nan, inf, fin, binary64, up, down, odd, fits, is_nan, of_fields, of_bits, to_bits}
use lib.Ieee.Fits.{down_pos}
use lib.Ieee.Bits.{of_bits-to_bits}
use lib.Ieee.Exact.{HasValue, odd_sign}
use lib.Ieee.Nearest.{div_same}
use Rattle.sampling.specs.later.Threshold.{threshold}

-- ---- shifts

module _ (q s w : ℕ) where
  shifted_down : s ≤ w → q / 2 ^ (w - s) ≡ q * 2 ^ s / 2 ^ w
  shifted_down h =
      ap (λ (k : ℕ). k / 2 ^ (w - s)) (sym (shl-shr q s)) ∙ shr-shr (q * 2 ^ s) s (w - s) ∙ ap (λ (k : ℕ). q * 2 ^ s / 2 ^ k) (omega arith)

  shifted_up : w ≤ s → q * 2 ^ (s - w) ≡ q * 2 ^ s / 2 ^ w
  shifted_up h = sym (ap (λ (k : ℕ). q * 2 ^ k / 2 ^ w) back ∙ ap (λ (k : ℕ). k / 2 ^ w) (twice (s - w) w) ∙ shl-shr (q * 2 ^ (s - w)) w)
    where
      back : s ≡ s - w + w
      back = omega arith

      twice : (i k : ℕ) → q * 2 ^ (i + k) ≡ q * 2 ^ i * 2 ^ k
      twice i k = ap (λ (n : ℕ). q * n) (pow-add 2 i k) ∙ sym (mul_assoc q (2 ^ i) (2 ^ k))

-- ---- the threshold of an amount a / c, and of a double by its fields

abbrev cap : ℕ → ℕ
cap a = min a (2 ^ 128 - 1)

of_value : (v : Float) (s : Bool) (a c : ℕ) → 0 < c → HasValue v s a c → threshold v ≡ cap (a * 2 ^ 128 / c)
unfolding threshold
of_value nan s a c C h = absurd h
of_value (inf t) s a c C h = absurd h
of_value (fin t m e) s a c C h =
    ap cap
    (div_same (m * up e * 2 ^ 128) (down e) (a * 2 ^ 128) c (down_pos e) C
    (mul_right_comm (m * up e) (2 ^ 128) c ∙ ap (λ (k : ℕ). k * 2 ^ 128) h.1 ∙ mul_right_comm a (down e) (2 ^ 128)))

-- q * 2 ^ j / 2 ^ 1074
of_digits : (s : Bool) (q j : ℕ) → threshold (odd 53 s q j 1074) ≡ cap (q * 2 ^ (j + 128) / 2 ^ 1074)
of_digits s q j =
    of_value (odd 53 s q j 1074) s (q * 2 ^ j) (2 ^ 1074) (pow_pos 1074) (odd_sign 53 s q j 1074)
    ∙ ap (λ (k : ℕ). cap (k / 2 ^ 1074)) (mul_assoc q (2 ^ j) (2 ^ 128) ∙ ap (λ (k : ℕ). q * k) (sym (pow-add 2 j 128)))

with_lead : (t : ℕ) → t < 2 ^ 52 → 2 ^ 52 + t < 2 ^ 53
with_lead t h = omega arith

-- fields from 1 to 2046 are read as the digits under a leading one
normal : (s : Bool) (j t : ℕ) → suc j < 2047 → of_fields binary64 s (suc j) t ≡ odd 53 s (2 ^ 52 + t) j 1074
unfolding of_fields
normal s j t h =
    go (eqb (suc j) 2047) (not_T (eqb (suc j) 2047) (λ e. lt_irrefl 2047 (subst (λ (k : ℕ). k < 2047) (eqb→eq (suc j) 2047 e) h)))
  where
    go : (b : Bool) → T (not b) → cond b (cond (eqb t 0) (inf s) nan) (odd 53 s (2 ^ 52 + t) j 1074) ≡ odd 53 s (2 ^ 52 + t) j 1074
    go true n = absurd n
    go false n = refl

of_normal : (s : Bool) (x t : ℕ) → 0 < x → x < 2047 → threshold (of_fields binary64 s x t) ≡ cap ((2 ^ 52 + t) * 2 ^ (x + 127) / 2 ^ 1074)
of_normal s zero t h g = absurd (lt_irrefl 0 h)
of_normal s (suc j) t h g =
    ap threshold (normal s j t g) ∙ of_digits s (2 ^ 52 + t) j
    ∙ ap (λ (k : ℕ). cap ((2 ^ 52 + t) * 2 ^ k / 2 ^ 1074)) (omega arith)

-- fields below 884 stand for less than 2 ^ (- 128)
tiny_digits : (s : Bool) (q j : ℕ) → q < 2 ^ 53 → j < 883 → threshold (odd 53 s q j 1074) ≡ 0
tiny_digits s q j h g =
    of_digits s q j
    ∙ ap cap (div-eq_of_lt (lt_of_lt_of_le (shl_lt 53 (j + 128) h) (pow_mono {i = 53 + (j + 128)} {j = 1074} (omega arith))))

of_tiny : (s : Bool) (x t : ℕ) → t < 2 ^ 52 → x < 884 → threshold (of_fields binary64 s x t) ≡ 0
unfolding of_fields
of_tiny s zero t h g = tiny_digits s t 0 (omega arith) (omega arith)
of_tiny s (suc j) t h g = ap threshold (normal s j t (omega arith)) ∙ tiny_digits s (2 ^ 52 + t) j (with_lead t h) (omega arith)

-- the field 2047 that is no NaN is an infinity
of_infinite : (s : Bool) (t : ℕ) → T (not (is_nan (of_fields binary64 s 2047 t))) → threshold (of_fields binary64 s 2047 t) ≡ 2 ^ 128 - 1
unfolding of_fields is_nan threshold
of_infinite s t n = go (eqb t 0) n
  where
    go : (b : Bool) → T (not (is_nan (cond b (inf s) nan))) → threshold (cond b (inf s) nan) ≡ 2 ^ 128 - 1
    go true n = refl
    go false n = absurd n

-- ---- the halves, by the field x

module _ (x q : ℕ) (Q : q < 2 ^ 53) where
  -- what is capped, where it is below the cap and where it is not
  under : (a c : ℕ) → a < c → a ≡ min a (c - 1)
  under a c h = omega arith

  over : (a c : ℕ) → c ≤ a → c - 1 ≡ min a (c - 1)
  over a c h = omega arith

  raised : 947 ≤ x → q * 2 ^ (x - 947) ≡ q * 2 ^ (x + 127) / 2 ^ 1074
  raised h = ap (λ (k : ℕ). q * 2 ^ k) (omega arith) ∙ shifted_up q (x + 127) 1074 (omega arith)

  fitting : 947 ≤ x → x < 1023 → q * 2 ^ (x - 947) ≡ cap (q * 2 ^ (x + 127) / 2 ^ 1074)
  fitting h g =
      under (q * 2 ^ (x - 947)) (2 ^ 128) (lt_of_lt_of_le (shl_lt 53 (x - 947) Q) (pow_mono {i = 53 + (x - 947)} {j = 128} (omega arith)))
      ∙ ap cap (raised h)

  low_only : x ≤ 947 → 0 + q / 2 ^ (947 - x) ≡ cap (q * 2 ^ (x + 127) / 2 ^ 1074)
  low_only h =
      zero-add (q / 2 ^ (947 - x))
      ∙ under (q / 2 ^ (947 - x)) (2 ^ 128) (lt_of_le_of_lt (shr_le q (947 - x)) (lt_of_lt_of_le Q (lit≤ tt)))
      ∙ ap cap (ap (λ (k : ℕ). q / 2 ^ k) (omega arith) ∙ shifted_down q (x + 127) 1074 (omega arith))

  both : 947 < x → x < 1011 → q / 2 ^ (1011 - x) * 2 ^ 64 + q * 2 ^ (x - 947) % 2 ^ 64 ≡ cap (q * 2 ^ (x + 127) / 2 ^ 1074)
  both h g =
      ap (λ (k : ℕ). k * 2 ^ 64 + q * 2 ^ (x - 947) % 2 ^ 64)
      (ap (λ (k : ℕ). q / 2 ^ k) (omega arith) ∙ shifted_down q (x - 947) 64 (omega arith))
      ∙ split (q * 2 ^ (x - 947)) 64
      ∙ fitting (omega arith) (omega arith)

  high_only : 1011 ≤ x → x < 1023 → q * 2 ^ (x - 1011) % 2 ^ 64 * 2 ^ 64 + 0 ≡ cap (q * 2 ^ (x + 127) / 2 ^ 1074)
  high_only h g =
      add-zero (q * 2 ^ (x - 1011) % 2 ^ 64 * 2 ^ 64)
      ∙ ap (λ (k : ℕ). k * 2 ^ 64) (shl_exact 53 (x - 1011) 64 Q (omega arith))
      ∙ mul_assoc q (2 ^ (x - 1011)) (2 ^ 64)
      ∙ ap (λ (k : ℕ). q * k) (sym (pow-add 2 (x - 1011) 64))
      ∙ ap (λ (k : ℕ). q * 2 ^ k) (omega arith)
      ∙ fitting (omega arith) g

  capped : 2 ^ 52 ≤ q → 1023 ≤ x → 2 ^ 128 - 1 ≡ cap (q * 2 ^ (x + 127) / 2 ^ 1074)
  capped l h =
      over (q * 2 ^ (x - 947)) (2 ^ 128)
      (le_trans (pow_mono {i = 128} {j = 52 + (x - 947)} (omega arith))
      (le_trans (le_of_eq (pow-add 2 52 (x - 947))) (mul-le-mul_right (2 ^ (x - 947)) l)))
      ∙ ap cap (raised (omega arith))

-- ---- of a double v, by its bits

module _ (v : Float) (F : T (fits binary64 v)) where
  abbrev bits : ℕ
  bits = to_bits binary64 v

  abbrev exponent : ℕ
  exponent = bits / 2 ^ 52 % 2048

  abbrev digits : ℕ
  digits = 2 ^ 52 + bits % 2 ^ 52

  rest_fits : bits % 2 ^ 52 < 2 ^ 52
  rest_fits = mod-lt bits (pow_pos 52)

  digits_fit : digits < 2 ^ 53
  digits_fit = with_lead (bits % 2 ^ 52) rest_fits

  by_fields : v ≡ of_fields binary64 (leb (2 ^ 63) bits) exponent (bits % 2 ^ 52)
  unfolding of_bits
  by_fields = sym (of_bits-to_bits binary64 v F) ∙ ap (λ (k : ℕ). of_fields binary64 (leb (2 ^ 63) bits) k (bits % 2 ^ 52)) (field bits 11 52)

  is_normal : 0 < exponent → exponent < 2047 → cap (digits * 2 ^ (exponent + 127) / 2 ^ 1074) ≡ threshold v
  is_normal h g = sym (ap threshold by_fields ∙ of_normal (leb (2 ^ 63) bits) exponent (bits % 2 ^ 52) h g)

  pub no_half : exponent < 884 → 0 ≡ threshold v
  no_half h = sym (ap threshold by_fields ∙ of_tiny (leb (2 ^ 63) bits) exponent (bits % 2 ^ 52) rest_fits h)

  pub low_half : 884 ≤ exponent → exponent ≤ 947 → 0 + digits / 2 ^ (947 - exponent) ≡ threshold v
  low_half l h = low_only exponent digits digits_fit h ∙ is_normal (omega arith) (omega arith)

  pub both_halves : 947 < exponent → exponent < 1011
      → digits / 2 ^ (1011 - exponent) * 2 ^ 64 + digits * 2 ^ (exponent - 947) % 2 ^ 64 ≡ threshold v
  both_halves l h = both exponent digits digits_fit l h ∙ is_normal (omega arith) (omega arith)

  pub high_half : 1011 ≤ exponent → exponent < 1023 → digits * 2 ^ (exponent - 1011) % 2 ^ 64 * 2 ^ 64 + 0 ≡ threshold v
  high_half l h = high_only exponent digits digits_fit l h ∙ is_normal (omega arith) (omega arith)

  pub full_halves : T (not (is_nan v)) → 1023 ≤ exponent → 2 ^ 128 - 1 ≡ threshold v
  full_halves n h = elim (eq-or-lt_of_le {n = exponent} {m = 2047} (omega (arith, mod-lt (bits / 2 ^ 52) (pow_pos 11)))) [
    | inl e ↦
        let at : v ≡ of_fields binary64 (leb (2 ^ 63) bits) 2047 (bits % 2 ^ 52) = by_fields
        ∙ ap (λ (k : ℕ). of_fields binary64 (leb (2 ^ 63) bits) k (bits % 2 ^ 52)) e in
        sym (ap threshold at ∙ of_infinite (leb (2 ^ 63) bits) (bits % 2 ^ 52) (subst (λ (k : Float). T (not (is_nan k))) at n))
    | inr g ↦ capped exponent digits digits_fit (le-add_right (2 ^ 52) (bits % 2 ^ 52)) h ∙ is_normal (omega arith) g
  ]
