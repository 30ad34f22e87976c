-- The answer of planning in numbers.
use mathlib.Core.Path.{◌≡◌}
use mathlib.Core.List.{List}
use Prim.Native.Nat.{ℕ}
use Rattle.centralized_telescope.specs.later.Plan.{planned}
use Rattle.centralized_telescope.specs.declared.params.Params.{Params}
use Rattle.centralized_telescope.specs.declared.planning.Amounts.{Amounts}
use Rattle.harness_exports.specs.Exported.{with_amounts, exported_plan}

-- r is what the definition answers for q, the settings made
pub exported_planned : (p q : Params) (longest : ℕ) (out : List ℕ) (r : ℕ × Amounts) (k : ℕ) (out' : List ℕ)
    → q ≡ p
    → r ≡ planned q longest
    → k ≡ r.0
    → out' ≡ with_amounts r.1 out
    → (k, out') ≡ exported_plan p longest out
unfolding exported_plan
exported_planned p q longest out r k out' s e ek eo = rw (ek, eo, e, s)
