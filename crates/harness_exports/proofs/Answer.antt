-- The exported calls by their tests.
use mathlib.Core.Path.{◌≡◌, refl, ap, ◌∙◌}
use mathlib.Core.Bool.{Bool, true, false, not}
use mir.Val.{bool_byte}
use mathlib.Core.List.{List, ◌++◌}
use Prim.Native.Nat.{ℕ, zero, suc, ◌≤◌, ◌<◌}
use borrow.Author.Tests.{eq-eqb, ne_eqb, le-leb, lt-leb}
use lib.Ieee.{Float}
use lib.ListN.{length, drop}
use Rattle.sampling.specs.core.Hash.{hashed}
use Rattle.centralized_telescope.specs.core.Elements.{Lent}
use Rattle.centralized_telescope.specs.later.Distinct.{distinct}
use Rattle.centralized_telescope.specs.later.SmallCase.{small_case}
use Rattle.centralized_telescope.specs.declared.params.SmallSettings.{SmallSettings}
use Rattle.harness_exports.specs.Exported.{exported_hash, with_settings, exported_small_case, said, exported_distinct, with_numbers}

pub refused : (m out : List ℕ) → (length out ≡ 32 → ⊥) → (8, out) ≡ exported_hash m out
unfolding exported_hash
refused m out h = rw (ne_eqb (length out) 32 h)

pub served : (m out last digest : List ℕ) (k : ℕ) → length out ≡ 32 → (k, digest) ≡ hashed m → last ≡ digest → (k, last) ≡ exported_hash m out
unfolding exported_hash
served m out last digest k h e p =
    rw (eq-eqb (length out) 32 h) (ap (λ (b : List ℕ). (k, b)) p ∙ e)

-- ---- numbers in the first lent ones

pub numbers_put : (numbers out : List ℕ) → length numbers ≤ length out → numbers ++ drop (length numbers) out ≡ with_numbers numbers out
unfolding with_numbers
numbers_put numbers out h = rw (le-leb (length numbers) (length out) h)

pub numbers_left : (numbers out : List ℕ) → length out < length numbers → out ≡ with_numbers numbers out
unfolding with_numbers
numbers_left numbers out h = rw (lt-leb (length numbers) (length out) h)

-- ---- the small case

pub not_six : (u : ℕ) (c : Float) (out : List ℕ) → (length out ≡ 6 → ⊥) → (8, out) ≡ exported_small_case u c out
unfolding exported_small_case
not_six u c out h = rw (ne_eqb (length out) 6 h)

pub answered : (u : ℕ) (c : Float) (out : List ℕ) (k : ℕ) (s : SmallSettings) (a : ℕ × List ℕ) → length out ≡ 6
    → (k, s) ≡ small_case u c → a ≡ with_settings k s out → a ≡ exported_small_case u c out
unfolding exported_small_case
answered u c out k s a h e p = rw (eq-eqb (length out) 6 h, ← e) p

pub not_settled : (k : ℕ) (s : SmallSettings) (out : List ℕ) → (k ≡ 0 → ⊥) → (k, out) ≡ with_settings k s out
not_settled zero s out n = absurd (n refl)
not_settled (suc k) s out n = refl

-- ---- distinctness

-- a yes is 0, a no is 1
pub said_so : (r : Bool) → bool_byte (not r) ≡ said 0 r
said_so true = refl
said_so false = refl

pub not_said : (k : ℕ) (r : Bool) → (k ≡ 0 → ⊥) → k ≡ said k r
not_said zero r n = absurd (n refl)
not_said (suc k) r n = refl

pub told : (lent : Lent) (k : ℕ) (r : Bool) → (k, r) ≡ distinct lent → said k r ≡ exported_distinct lent
unfolding exported_distinct
told lent k r e = rw (← e)
