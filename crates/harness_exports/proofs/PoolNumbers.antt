-- The answers on pools in numbers.
use mathlib.Core.Path.{◌≡◌, ap}
use mathlib.Core.List.{List, ◌++◌}
use Prim.Native.Nat.{ℕ, ◌≤◌, ◌<◌}
use borrow.Author.Tests.{lt-ltb, le-ltb}
use lib.ListN.{length, drop}
use Rattle.std.specs.Prelude.{Result, Ok, Err}
use Rattle.centralized_telescope.specs.core.Elements.{Lent}
use Rattle.centralized_telescope.specs.core.Lists.{over}
use Rattle.centralized_telescope.specs.later.Pool.{pool_size, pool_size_by, pool_data}
use Rattle.centralized_telescope.specs.later.ProofSize.{size_by}
use Rattle.centralized_telescope.specs.declared.errors.Refusal.{Refusal}
use Rattle.harness_exports.specs.Exported.{with_first, exported_pool_size, exported_pool_data}

module _ (first second : Lent) where
  -- k is the answer's number
  pub exported_size : (out : List ℕ) (a : Result ℕ Refusal) (k : ℕ) (out' : List ℕ) → pool_size_by a ≡ pool_size first second
      → k ≡ (size_by a).0 → out' ≡ with_first (size_by a).1 out → (k, out') ≡ exported_pool_size first second out
  unfolding exported_pool_size
  exported_size out (Ok n) k out' e ek eo = rw (ek, eo, ← e)
  exported_size out (Err r) k out' e ek eo = rw (ek, eo, ← e)

  module _ (place : ℕ) (part out own : List ℕ) (o : own ≡ pool_data first second place) where
    pub part_short : length part < length own → (42, part, out) ≡ exported_pool_data first second place part out
    unfolding exported_pool_data
    part_short l = rw (← o, lt-ltb (length part) (length own) l)

    pub part_written : length own ≤ length part → (last out' : List ℕ) → last ≡ own
        → out' ≡ with_first (length own) out → (0, last ++ drop (length own) part, out') ≡ exported_pool_data first second place part out
    unfolding exported_pool_data
    part_written l last out' p q =
        let w : last ++ drop (length own) part ≡ over own part = ap (λ (xs : List ℕ). xs ++ drop (length own) part) p in
        rw (← o, le-ltb (length part) (length own) l, w, q)
