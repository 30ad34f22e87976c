-- The test for a power of two: n's highest bit is all of n. And the remainder by one: the bits below its one.
use Rattle.std.proofs.Common.{◌≡◌, ℕ, suc, ◌+◌, ◌-◌, ◌*◌, ◌%◌, ◌^◌, ◌<◌, ◌≤◌, Bool, true, false, eqb, leb, sym, refl, ap, ◌∙◌, subst, inl, inr, lt_of_lt_of_le, lt_of_le_of_lt, lt_irrefl, mod-eq_of_lt, eq-or-lt_of_le, one-mul, arith, pow_pos, pow_mono, eq-eqb, ne_eqb, leb-false, leb-true}
use lib.Bits.{bit_and, and_mask}
use lib.Pow.{pow-lt}
use lib.Count.{count_leading_zeros, leading_top}
use Rattle.sampling.specs.core.Sample.{is_power}
use Rattle.sampling.specs.laws.SampleLaws.{power_is, power_of}

-- ---- the remainder

module _ (n : ℕ) (p : is_power 64 n ≡ true) where
  pub power_positive : 0 < n
  power_positive = let j = power_of 64 n p in subst (λ (k : ℕ). 0 < k) (sym j.2) (pow_pos j.0)

  pub masked : (x : ℕ) → bit_and x (n - 1) ≡ x % n
  masked x =
      let j = power_of 64 n p in
      ap (λ (k : ℕ). bit_and x (k - 1)) j.2 ∙ and_mask x j.0 ∙ ap (λ (k : ℕ). x % k) (sym j.2)

-- ---- the test

-- no power of two lies between two that follow each other
between : (j n : ℕ) → 2 ^ j < n → n < 2 ^ suc j → is_power 64 n ≡ false
between j n l u = go (is_power 64 n) refl
  where
    apart : (i : ℕ) → n ≡ 2 ^ i → (t : Bool) → leb i j ≡ t → ⊥
    apart i e true h = lt_irrefl n (lt_of_le_of_lt (subst (λ (k : ℕ). k ≤ 2 ^ j) (sym e) (pow_mono (leb-true i j h))) l)
    apart i e false h = lt_irrefl n (lt_of_lt_of_le u (subst (λ (k : ℕ). 2 ^ suc j ≤ k) (sym e) (pow_mono (leb-false i j h))))

    go : (t : Bool) → is_power 64 n ≡ t → t ≡ false
    go true p = let i = power_of 64 n p in absurd (apart i.0 i.2 (leb i.0 j) refl)
    go false p = refl

-- where a zeros stand over the bit j, of 64
places : (a j : ℕ) → a + suc j ≡ 64 → (a ≤ 63) × (63 - a ≡ j) × (j < 64)
places a j e = (omega arith, omega arith, omega arith)

module _ (n : ℕ) (N : 0 < n) (F : n < 2 ^ 64) where
  pub some_bit : count_leading_zeros 64 n ≤ 63
  some_bit = let top = leading_top 64 n N F in (places (count_leading_zeros 64 n) top.0 top.1).0

  pub highest_bit_is_all : eqb n (1 * 2 ^ (63 - count_leading_zeros 64 n) % 2 ^ 64) ≡ is_power 64 n
  highest_bit_is_all =
      let top = leading_top 64 n N F in
      let j = top.0 in
      let at = places (count_leading_zeros 64 n) j top.1 in
      let bit : 1 * 2 ^ (63 - count_leading_zeros 64 n) % 2 ^ 64 ≡ 2 ^ j =
      ap (λ (i : ℕ). 1 * 2 ^ i % 2 ^ 64) at.1 ∙ ap (λ (i : ℕ). i % 2 ^ 64) (one-mul (2 ^ j)) ∙ mod-eq_of_lt (pow-lt at.2) in
      ap (λ (i : ℕ). eqb n i) bit
      ∙ elim (eq-or-lt_of_le top.2) [
        | inl e ↦ eq-eqb n (2 ^ j) (sym e) ∙ sym (power_is 64 j n at.2 (sym e))
        | inr g ↦ ne_eqb n (2 ^ j) (λ e. lt_irrefl n (subst (λ (i : ℕ). i < n) (sym e) g)) ∙ sym (between j n g top.3)
      ]
