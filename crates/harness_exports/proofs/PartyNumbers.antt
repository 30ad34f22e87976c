-- The answers of two parties in numbers.
use mathlib.Core.Path.{◌≡◌, refl, ap, ◌∙◌}
use mathlib.Core.List.{List, []}
use Prim.Native.Nat.{ℕ}
use borrow.Author.Tests.{eq-eqb, ne_eqb}
use lib.ListN.{length}
use Rattle.std.specs.Prelude.{Result, Ok, Err}
use Rattle.centralized_telescope.specs.core.Elements.{Lent}
use Rattle.centralized_telescope.specs.later.TwoProducts.{both_tried, both_by}
use Rattle.centralized_telescope.specs.declared.params.Params.{Params}
use Rattle.centralized_telescope.specs.declared.products.TwoAnswers.{TwoAnswers}
use Rattle.centralized_telescope.specs.core.Prover.{proved_by}
use Rattle.centralized_telescope.specs.declared.errors.Refusal.{Refusal}
use Rattle.centralized_telescope.specs.declared.search.Search.{Search}
use Rattle.centralized_telescope.specs.declared.search.Search.TheVariants as search
use Rattle.harness_exports.specs.Exported.{parties_numbers, parties_served, exported_two_products}

-- one answer's numbers don't hang on what is lent
same : (a : Result Search Refusal) (places table : List ℕ)
    → (places ≡ (proved_by a places table).places) × ((proved_by a [] []).number ≡ (proved_by a places table).number)
    × ((proved_by a [] []).search ≡ (proved_by a places table).search) × ((proved_by a [] []).count ≡ (proved_by a places table).count)
same (Ok (search.Found R S count)) places table = (refl, refl, refl, refl)
same (Ok (search.NotFoundInBounds count)) places table = (refl, refl, refl, refl)
same (Ok (search.NotFound count)) places table = (refl, refl, refl, refl)
same (Err k) places table = (refl, refl, refl, refl)

module _ (lent : Lent) (table_retry : ℕ) (table : List ℕ) (p : Params) (R : ℕ) (places : List ℕ) (p' : Params) (R' : ℕ)
    (places' out : List ℕ) where
  pub not_six_lent : (length out ≡ 6 → ⊥)
      → (8, places, places', out) ≡ exported_two_products lent table_retry table p R places p' R' places' out
  unfolding exported_two_products
  not_six_lent h = rw (ne_eqb (length out) 6 h)

  -- q and q' are the settings made
  pub parties_served_lem : length out ≡ 6 → (q q' : Params) → q ≡ p → q' ≡ p' → (a : TwoAnswers) (first second out' : List ℕ)
      → both_by a first second table ≡ both_tried lent table_retry table q R places q' R' places'
      → out' ≡ parties_numbers (proved_by a.first [] []) (proved_by a.second [] [])
      → (0, first, second, out') ≡ exported_two_products lent table_retry table p R places p' R' places' out
  unfolding exported_two_products
  parties_served_lem h q q' s s' a first second out' e w =
      let k = same a.first first table in
      let k' = same a.second second table in
      let here : (0, first, second, out') ≡ parties_served (both_by a first second table) =
      rw (w, k.1, k.2, k.3, k'.1, k'.2, k'.3, ← k.0, ← k'.0) in
      rw (eq-eqb (length out) 6 h, ← s, ← s') (here ∙ ap parties_served e)
