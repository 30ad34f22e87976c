-- Laws of tests and of the order of numbers, which the laws of this crate's definitions and its proofs share.
use Rattle.std.specs.Prelude.{◌≡◌, ℕ, zero, suc, ◌+◌, ◌<◌, ◌≤◌, Bool, true, false, cond, ◌&&◌, ◌||◌, T, ◌⊎◌, ◌==◌, ◌≢◌, nat_lt, refl}
use Rattle.std.proofs.Common.{sym, ◌∙◌, subst, inl, inr, ⊎_elim, eq-or-lt_of_le, le_of_suc-le-suc, add-one, arith, eqb-true, ltb-true, ltb-false}
use Rattle.std.proofs.lemmas.Bool.{false≢true, eqb-false}
use Rattle.std.specs.Float.Ieee.Fits.{and_l, and_r}

-- ---- tests joined, and a choice that makes no difference

pub not_both : {b : Bool} → b ≡ true → b ≢ false
not_both t f = false≢true (sym f ∙ t)

pub refuted : (b : Bool) → (b ≢ true) → b ≡ false
refuted true f = absurd (f refl)
refuted false f = refl

pub confirmed : (b : Bool) → (b ≢ false) → b ≡ true
confirmed true f = refl
confirmed false f = absurd (f refl)

pub neither : (a : Bool) {b : Bool} → a || b ≡ false → (a ≡ false) × (b ≡ false)
neither true e = absurd (not_both refl e)
neither false e = (refl, e)

pub both : (a : Bool) {b : Bool} → a && b ≡ true → (a ≡ true) × (b ≡ true)
both true e = (refl, e)
both false e = absurd (not_both e refl)

-- a line of a table that isn't met
pub unsaid : (t : Bool) (k : ℕ) → cond t (suc k) 0 ≡ 0 → t ≡ false
unsaid true k e = absurd (omega arith)
unsaid false k e = refl

pub either_way : {A : Type 0} (t : Bool) (x : A) → cond t x x ≡ x
either_way true x = refl
either_way false x = refl

-- ---- two numbers

is_or_not : (a b : ℕ) → (a ≡ b) ⊎ (a ≢ b)
is_or_not a b = go (a == b) refl
  where
    go : (t : Bool) → (a == b) ≡ t → (a ≡ b) ⊎ (a ≢ b)
    go true e = inl (eqb-true a b e)
    go false e = inr (eqb-false a b e)

-- what holds of y and of all others holds of each
pub for_each : (P : ℕ → Type 0) (y : ℕ) → P y → ((i : ℕ) → (i ≢ y) → P i) → (i : ℕ) → P i
for_each P y here other i = ⊎_elim (λ e. subst P (sym e) here) (other i) (is_or_not i y)

pub lt_or_le : (a b : ℕ) → (a < b) ⊎ (b ≤ a)
lt_or_le a b = go (nat_lt a b) refl
  where
    go : (t : Bool) → nat_lt a b ≡ t → (a < b) ⊎ (b ≤ a)
    go true e = inl (ltb-true a b e)
    go false e = inr (ltb-false a b e)

-- what never falls from a number to the next never falls
pub ascends : (f : ℕ → ℕ) → ((i : ℕ) → f i ≤ f (i + 1)) → (i j : ℕ) → i ≤ j → f i ≤ f j
ascends f step i zero l = let e : i ≡ 0 = omega arith in rw e (omega arith)
ascends f step i (suc j) l =
    ⊎_elim (λ e. rw e (omega arith)) (λ k. omega (arith, ascends f step i j (omega arith), rw (add-one j) at (step j))) (eq-or-lt_of_le l)

-- a test that is computed for each number from 1 to k, and what that says of one of them
unfoldable pub each_up_to : (ℕ → Bool) → ℕ → Bool
each_up_to test zero = true
each_up_to test (suc k) = test (suc k) && each_up_to test k

pub from_computed : (test : ℕ → Bool) (k : ℕ) → T (each_up_to test k) → (u : ℕ) → 1 ≤ u → u ≤ k → T (test u)
unfolding each_up_to
from_computed test zero t u l h = absurd (omega arith)
from_computed test (suc k) t u l h = elim (eq-or-lt_of_le h) [
  | inl e ↦ rw e (and_l (test (suc k)) (each_up_to test k) t)
  | inr g ↦ from_computed test k (and_r (test (suc k)) (each_up_to test k) t) u l (le_of_suc-le-suc g)
]
