-- Laws of the sampler's definitions. A caller that cites these opens none of the definitions.
use Rattle.std.specs.Prelude.{◌≡◌, ℕ, zero, suc, ◌+◌, ◌-◌, ◌*◌, ◌/◌, ◌%◌, ◌^◌, ◌<◌, Bool, true, false, cond, not, ◌||◌, T, ◌⊎◌, List, pos, ◌==◌, nat_eq, nat_le, refl, Float}
use Rattle.std.proofs.Common.{sym, ap, ◌∙◌, subst, inl, inr, eq-or-lt_of_le, eq-zero-or-pos, mod-lt, lt_of_le_of_lt, arith, eq-eqb, ne_eqb, eqb-true, le-ltb, lit<}
use Rattle.std.proofs.Math.Nat.{mod-one, min-le_right}
use Rattle.std.specs.Float.{nan, inf, fin, binary64}
use Rattle.std.specs.Float.Ieee.{of_bits, is_nan, lt, ne}
use Rattle.std.specs.Float.Ieee.Compare.{differs_from_itself, nan_differs}
use Rattle.sampling.specs.core.BigEndian.{big_endian}
use Rattle.sampling.specs.core.Sample.{is_power, D, mod_not_power, uniform, value_of, bernoulli}
use Rattle.sampling.specs.later.Threshold.{outside, outside_unit, floor_of, threshold, converted, halves_of}
use Rattle.sampling.specs.declared.sample.U128.{U128}

-- ---- powers of two: the test says yes exactly at 2 ^ 0, .. 2 ^ (k - 1)

pub power_is : (k j n : ℕ) → j < k → n ≡ 2 ^ j → is_power k n ≡ true
unfolding is_power
power_is zero j n h e = absurd (omega arith)
power_is (suc k) j n h e = elim (eq-or-lt_of_le {n = j} {m = k} (omega arith)) [
  | inl s ↦ ap (λ (t : Bool). t || is_power k n) (eq-eqb n (2 ^ k) (e ∙ ap (λ (i : ℕ). 2 ^ i) s))
  | inr g ↦ or_true (n == 2 ^ k) (power_is k j n g e)
]
  where
    or_true : (t : Bool) {u : Bool} → u ≡ true → t || u ≡ true
    or_true true h = refl
    or_true false h = h

pub power_of : (k n : ℕ) → is_power k n ≡ true → (j : ℕ) × (j < k) × (n ≡ 2 ^ j)
unfolding is_power
power_of zero n h = absurd (subst T (sym h) tt)
power_of (suc k) n h = go (n == 2 ^ k) refl h (power_of k n)
  where
    go : (t : Bool) → (n == 2 ^ k) ≡ t → t || is_power k n ≡ true → (is_power k n ≡ true → (j : ℕ) × (j < k) × (n ≡ 2 ^ j))
        → (j : ℕ) × (j < suc k) × (n ≡ 2 ^ j)
    go true e g lower = (k, omega arith, eqb-true n (2 ^ k) e)
    go false e g lower = let r = lower g in (r.0, omega (arith, r.1), r.2)

-- ---- the uniform draw

-- outside the powers of two: no draw, or the remainder
mod_not_power_cases : (i n : ℕ) → (mod_not_power i n ≡ (1, 0)) ⊎ (mod_not_power i n ≡ (0, i % n))
unfolding mod_not_power
mod_not_power_cases i n = go (nat_le (D n * n) i)
  where
    go : (t : Bool) → (◌≡◌ {A = ℕ × ℕ} (cond t (1, 0) (0, i % n)) (1, 0)) ⊎ (◌≡◌ {A = ℕ × ℕ} (cond t (1, 0) (0, i % n)) (0, i % n))
    go true = inl refl
    go false = inr refl

module _ (h : List ℕ) (n : ℕ) where
  pub refused_at_zero : n ≡ 0 → uniform h n ≡ (7, 0)
  unfolding uniform
  refused_at_zero e = rw (eq-eqb n 0 e)

  module _ (N : 0 < n) where
    not_zero : nat_eq n 0 ≡ false
    not_zero = ne_eqb n 0 (λ e. omega arith)

    -- a power of two, and any other n
    pub at_a_power : is_power 64 n ≡ true → uniform h n ≡ (0, big_endian 8 h % n)
    unfolding uniform
    at_a_power p = rw (not_zero, p)

    pub not_at_a_power : is_power 64 n ≡ false → uniform h n ≡ mod_not_power (big_endian 16 h) n
    unfolding uniform
    not_at_a_power p = rw (not_zero, p)

    -- no draw, or a value below n: nothing but n = 0 is refused
    pub none_or_below : (uniform h n ≡ (1, 0)) ⊎ ((v : ℕ) × (uniform h n ≡ (0, v)) × (v < n))
    none_or_below = go (is_power 64 n) refl
      where
        go : (t : Bool) → is_power 64 n ≡ t → (uniform h n ≡ (1, 0)) ⊎ ((v : ℕ) × (uniform h n ≡ (0, v)) × (v < n))
        go true p = inr (big_endian 8 h % n, at_a_power p, mod-lt (big_endian 8 h) N)
        go false p = elim (mod_not_power_cases (big_endian 16 h) n) [
          | inl e ↦ inl (not_at_a_power p ∙ e)
          | inr e ↦ inr (big_endian 16 h % n, not_at_a_power p ∙ e, mod-lt (big_endian 16 h) N)
        ]

  -- what is drawn is below n
  pub drawn_below_lem : (v : ℕ) → uniform h n ≡ (0, v) → v < n
  drawn_below_lem v e = elim (eq-zero-or-pos n) [
    | inl z ↦ absurd (let s = ap (λ (a : ℕ × ℕ). a.0) (sym (refused_at_zero z) ∙ e) in omega arith)
    | inr N ↦
        elim (none_or_below N) [
          | inl o ↦ absurd (let s = ap (λ (a : ℕ × ℕ). a.0) (sym o ∙ e) in omega arith)
          | inr w ↦ subst (λ (k : ℕ). k < n) (ap (λ (a : ℕ × ℕ). a.1) (sym w.1 ∙ e)) w.2
        ]
  ]

  -- a refusal is of n = 0
  pub zero_when_refused : (uniform h n).0 ≡ 7 → n ≡ 0
  zero_when_refused r = elim (eq-zero-or-pos n) [
    | inl z ↦ z
    | inr N ↦
        elim (none_or_below N) [
          | inl o ↦ absurd (let s = ap (λ (a : ℕ × ℕ). a.0) o in omega arith)
          | inr w ↦ absurd (let s = ap (λ (a : ℕ × ℕ). a.0) w.1 in omega arith)
        ]
  ]

-- case b, for all bytes
pub drawn_of_one : (h : List ℕ) → uniform h 1 ≡ (0, 0)
drawn_of_one h = at_a_power h 1 (omega arith) (power_is 64 0 1 (omega arith) refl) ∙ ap (λ (v : ℕ). (0, v)) (mod-one (big_endian 8 h))

-- ---- the test of a double's range, as code makes it: a NaN differs from itself, and any other double is judged by the two bounds

pub nan_outside : (hi : ℕ) (x : Float) → ne x x ≡ true → true ≡ outside hi x
unfolding outside is_nan
nan_outside hi x d = rw (differs_from_itself x (subst T (sym d) tt))

pub by_bounds : (hi : ℕ) (x top : Float) (t : Bool) → top ≡ fin false hi (pos 0) → ne x x ≡ false → lt x (of_bits binary64 0) ≡ t
    → t || lt top x ≡ outside hi x
unfolding outside is_nan of_bits
by_bounds hi nan top t u d e = absurd (subst T (sym nan_differs ∙ d) tt)
by_bounds hi (inf s) top t u d e = rw (e, u)
by_bounds hi (fin s m n) top t u d e = rw (e, u)

-- ---- the draw with a probability

pub threshold_below : (q : Float) → threshold q < 2 ^ 128
unfolding threshold
threshold_below nan = lit< tt
threshold_below (inf s) = lit< tt
threshold_below (fin s m e) = lt_of_le_of_lt (min-le_right (floor_of m e) (2 ^ 128 - 1)) (lit< tt)

-- 01, Sampler: X of −0.0
pub negative_zero : converted (of_bits binary64 (2 ^ 63)) ≡ (0, 0)
unfolding of_bits is_nan lt outside threshold converted
negative_zero = refl

-- a q that is not refused is a number
pub inside_no_nan : (q : Float) → outside_unit q ≡ false → T (not (is_nan q))
unfolding outside is_nan
inside_no_nan nan o = absurd (subst T o tt)
inside_no_nan (inf s) o = tt
inside_no_nan (fin s m e) o = tt

-- the threshold and its refusal, by the test on q
pub threshold_refused : (q : Float) → outside_unit q ≡ true → converted q ≡ (3, 0)
unfolding converted
threshold_refused q o = rw o

pub threshold_at : (q : Float) → outside_unit q ≡ false → converted q ≡ (0, threshold q)
unfolding converted
threshold_at q o = rw o

-- no i is below 0
pub none_below : (h : List ℕ) → bernoulli h 0 ≡ false
unfolding bernoulli
none_below h = le-ltb (big_endian 16 h) 0 (omega arith)

-- a number's halves are its own
pub halves_of_lem : (x : U128) → x.lo < 2 ^ 64 → halves_of (value_of x) ≡ x
halves_of_lem x l =
    let p : (x.hi * 2 ^ 64 + x.lo) / 2 ^ 64 ≡ x.hi = omega arith in
    let q : (x.hi * 2 ^ 64 + x.lo) % 2 ^ 64 ≡ x.lo = omega arith in
    rw (p, q)

pub value_of_lem : (X : ℕ) → value_of (halves_of X) ≡ X
value_of_lem X = omega arith
