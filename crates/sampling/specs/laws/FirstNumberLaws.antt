-- Laws of the table of refusals: its lines, met from the top.
use Rattle.std.specs.Prelude.{◌≡◌, ℕ, Bool, true, false, cond, List, [], ◌∷◌, ◌==◌, ◌≢◌, refl}
use Rattle.std.proofs.Common.{sym, ◌∙◌, eq-eqb, ne_eqb, eqb-true}
use Rattle.std.proofs.lemmas.Bool.{eqb-false}
use Rattle.sampling.specs.core.FirstNumber.{first_number}

pub number_passed : (k : ℕ) (ks : List ℕ) → k ≡ 0 → first_number (k ∷ ks) ≡ first_number ks
unfolding first_number
number_passed k ks e = rw (eq-eqb k 0 e)

pub number_met : (k : ℕ) (ks : List ℕ) (r : ℕ) → k ≡ r → (r ≢ 0) → first_number (k ∷ ks) ≡ r
unfolding first_number
number_met k ks r e n = rw (e, ne_eqb r 0 n)

-- the second line
pub second_met : (j k : ℕ) (ks : List ℕ) (r : ℕ) → j ≡ 0 → k ≡ r → (r ≢ 0) → first_number (j ∷ k ∷ ks) ≡ r
second_met j k ks r f e n = number_passed j (k ∷ ks) f ∙ number_met k ks r e n

pub two_passed : (j k : ℕ) (ks : List ℕ) → j ≡ 0 → k ≡ 0 → first_number (j ∷ k ∷ ks) ≡ first_number ks
two_passed j k ks f e = number_passed j (k ∷ ks) f ∙ number_passed k ks e

pub number_last : (k : ℕ) → first_number (k ∷ []) ≡ k
unfolding first_number
number_last k = go (k == 0) refl
  where
    go : (b : Bool) → (k == 0) ≡ b → cond b 0 k ≡ k
    go true e = sym (eqb-true k 0 e)
    go false e = refl

-- where all are 0
pub number_none : (k : ℕ) (ks : List ℕ) → first_number (k ∷ ks) ≡ 0 → (k ≡ 0) × (first_number ks ≡ 0)
unfolding first_number
number_none k ks = go (k == 0) refl
  where
    go : (b : Bool) → (k == 0) ≡ b → cond b (first_number ks) k ≡ 0 → (k ≡ 0) × (first_number ks ≡ 0)
    go true e n = (eqb-true k 0 e, n)
    go false e n = absurd (eqb-false k 0 e n)
