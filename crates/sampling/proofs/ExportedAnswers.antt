-- The exported calls' answers, by the tests that they make.
use Rattle.std.proofs.Common.{◌≡◌, ℕ, suc, ◌^◌, ◌<◌, Bool, cond, List, [], ◌∷◌, length, set, sym, refl, ap, ◌∙◌, arith, eq-eqb, ne_eqb}
use lib.Ieee.{Float}
use Rattle.sampling.specs.core.BigEndian.{bytes_of}
use Rattle.sampling.specs.core.Sample.{uniform, value_of, bernoulli}
use Rattle.sampling.specs.later.Threshold.{converted, with_halves, exported_threshold}
use Rattle.sampling.specs.core.FirstNumber.{first_number}
use Rattle.sampling.specs.laws.FirstNumberLaws.{two_passed, number_last}
use Rattle.sampling.specs.laws.SampleLaws.{halves_of_lem}
use Rattle.sampling.specs.declared.sample.U128.{U128}
use Rattle.sampling.specs.core.Exports.{with_lent, exported_uniform, exported_bernoulli}

-- ---- the draw

module _ (h : List ℕ) (n : ℕ) (out : List ℕ) where
  pub n_refused : n ≡ 0 → (7, out) ≡ exported_uniform h n out
  unfolding exported_uniform first_number with_lent
  n_refused e = rw (eq-eqb n 0 e)

  module _ (N : n ≡ 0 → ⊥) where
    pub h_refused : (length h ≡ 16 → ⊥) → (8, out) ≡ exported_uniform h n out
    unfolding exported_uniform first_number with_lent
    h_refused L = rw (ne_eqb n 0 N, ne_eqb (length h) 16 L)

    module _ (L : length h ≡ 16) where
      pub out_refused : (length out ≡ 8 → ⊥) → (8, out) ≡ exported_uniform h n out
      unfolding exported_uniform first_number with_lent
      out_refused O = rw (ne_eqb n 0 N, eq-eqb (length h) 16 L, ne_eqb (length out) 8 O)

      module _ (O : length out ≡ 8) (s : List ℕ) (S : s ≡ h) where
        told : (k v : ℕ) → (k, v) ≡ uniform s n → with_lent k v out ≡ exported_uniform h n out
        unfolding exported_uniform
        told k v e =
            let d : ◌≡◌ {A = ℕ × ℕ} (k, v) (uniform h n) = e ∙ ap (λ (l : List ℕ). uniform l n) S in
            ap (λ (a : ℕ × ℕ). with_lent a.0 a.1 out) d
            ∙ rw (ne_eqb n 0 N, eq-eqb (length h) 16 L, eq-eqb (length out) 8 O)
            (ap (λ (j : ℕ). with_lent j (uniform h n).1 out)
            (sym (two_passed 0 0 ((uniform h n).0 ∷ []) refl refl ∙ number_last (uniform h n).0)))

        -- a value's bytes take the place of the lent ones; no other answer touches them
        pub value_told : (v : ℕ) (after : List ℕ) → (0, v) ≡ uniform s n → after ≡ bytes_of (length out) v
            → (0, after) ≡ exported_uniform h n out
        unfolding with_lent
        value_told v after e w =
            ap (λ (b : List ℕ). (0, b)) (w ∙ ap (λ (n : ℕ). bytes_of n v) O) ∙ told 0 v e

        pub untouched : (k v : ℕ) → (suc k, v) ≡ uniform s n → (suc k, out) ≡ exported_uniform h n out
        unfolding with_lent
        untouched k v e = told (suc k) v e

-- ---- the yes or no

module _ (h : List ℕ) (x : U128) where
  pub chance_h_refused : (length h ≡ 16 → ⊥) → 8 ≡ exported_bernoulli h x
  unfolding exported_bernoulli
  chance_h_refused L = rw (ne_eqb (length h) 16 L)

  pub chance_told : length h ≡ 16 → (t : Bool) → t ≡ bernoulli h (value_of x) → cond t 1 0 ≡ exported_bernoulli h x
  unfolding exported_bernoulli
  chance_told L t e = rw (eq-eqb (length h) 16 L, e)

-- ---- the converter

both_set : (out : List ℕ) (a b : ℕ) → length out ≡ 2 → set (set out 0 a) 1 b ≡ a ∷ b ∷ []
both_set [] a b e = absurd (omega arith)
both_set (x ∷ []) a b e = absurd (omega arith)
both_set (x ∷ y ∷ []) a b e = refl
both_set (x ∷ y ∷ z ∷ out) a b e = absurd (omega arith)

-- both halves, with 0
abbrev filled : U128 → ℕ × List ℕ
filled x = (0, x.hi ∷ x.lo ∷ [])

module _ (q : Float) (out : List ℕ) where
  pub room_refused : (length out ≡ 2 → ⊥) → (8, out) ≡ exported_threshold q out
  unfolding exported_threshold with_halves first_number
  room_refused L = rw (ne_eqb (length out) 2 L)

  pub q_refused : length out ≡ 2 → converted q ≡ (3, 0) → (3, out) ≡ exported_threshold q out
  unfolding exported_threshold with_halves first_number
  q_refused L e = rw (eq-eqb (length out) 2 L, e)

  pub q_converted : (L : length out ≡ 2) (x : U128) → x.lo < 2 ^ 64 → converted q ≡ (0, value_of x)
      → (0, set (set out 0 x.hi) 1 x.lo) ≡ exported_threshold q out
  unfolding exported_threshold with_halves first_number
  q_converted L x l e = rw (eq-eqb (length out) 2 L, e, both_set out x.hi x.lo L) (ap filled (sym (halves_of_lem x l)))
