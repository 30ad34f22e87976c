-- The chains counted by their length, in numbers.
use mathlib.Core.Path.{◌≡◌}
use mathlib.Core.List.{List}
use Prim.Native.Nat.{ℕ}
use borrow.Author.Tests.{eq-eqb, ne_eqb}
use lib.ListN.{length}
use Rattle.std.specs.Prelude.{Result, Ok, Err}
use Rattle.centralized_telescope.specs.core.Elements.{Lent}
use Rattle.centralized_telescope.specs.later.ProofSize.{size_by}
use Rattle.centralized_telescope.specs.later.Shape.{shaped, shaped_by}
use Rattle.centralized_telescope.specs.declared.params.Params.{Params}
use Rattle.centralized_telescope.specs.declared.errors.Refusal.{Refusal}
use Rattle.harness_exports.specs.Exported.{with_first, exported_count_chains}

module _ (p : Params) (R S : ℕ) (lent : Lent) (bins counts out : List ℕ) where
  pub not_one_lent : (length out ≡ 1 → ⊥) → (8, bins, counts, out) ≡ exported_count_chains p R S lent bins counts out
  unfolding exported_count_chains
  not_one_lent h = rw (ne_eqb (length out) 1 h)

  -- q is the settings made, k the answer's number
  pub exported_counted : length out ≡ 1 → (q : Params) → q ≡ p → (a : Result ℕ Refusal) (k : ℕ) (bins' counts' out' : List ℕ)
      → shaped_by a counts' bins' ≡ shaped q R S lent counts bins
      → k ≡ (size_by a).0
      → out' ≡ with_first (size_by a).1 out
      → (k, bins', counts', out') ≡ exported_count_chains p R S lent bins counts out
  unfolding exported_count_chains
  exported_counted h q s (Ok n) k bins' counts' out' e ek eo = rw (eq-eqb (length out) 1 h, ek, eo, ← s, ← e)
  exported_counted h q s (Err r) k bins' counts' out' e ek eo = rw (eq-eqb (length out) 1 h, ek, eo, ← s, ← e)
