-- Laws of the pool: one element of the second list more, and which the pool's elements are.
use Rattle.std.specs.Prelude.{◌≡◌, ℕ, ◌+◌, ◌<◌, ◌≤◌, Bool, true, false, cond, List, [], ◌∷◌, ◌++◌, length, take, drop, ◌≢◌}
use Rattle.std.proofs.Math.Path.{refl, ap}
use Rattle.std.proofs.Common.{sym, ◌∙◌, append-nil, add-one, arith, length-append, take-append-drop, take-suc}
use Rattle.centralized_telescope.specs.core.Lists.{some_of}
use Rattle.centralized_telescope.specs.core.Elements.{Element, element_at}
use Rattle.centralized_telescope.specs.later.Distinct.{same_element}
use Rattle.centralized_telescope.specs.later.Pool.{stands_in, added_to}
use Rattle.centralized_telescope.specs.laws.DistinctLaws.{none_same, same_none}
use Rattle.centralized_telescope.specs.laws.TestLaws.{not_both, refuted, confirmed}

-- ---- whether an element equals one of a list, by the list's places

module _ (e : Element) (es : List Element) where
  pub stands : (j : ℕ) → j < length es → e ≡ element_at es j → some_of (same_element e) es ≡ true
  stands j l q = confirmed (some_of (same_element e) es) (λ f. none_same e es (rw f) j l q)

  pub stands_nowhere : ((j : ℕ) → j < length es → e ≢ element_at es j) → some_of (same_element e) es ≡ false
  stands_nowhere n = refuted (some_of (same_element e) es) (λ t. not_both (same_none e es n) (rw t))

-- ---- what is added, one more of the second list at a time

module _ (first : List Element) where
  pub added_append : (xs ys : List Element) → added_to first (xs ++ ys) ≡ added_to first xs ++ added_to first ys
  unfolding added_to
  added_append [] ys = refl
  added_append (x ∷ xs) ys = go (stands_in first x) (added_append xs ys)
    where
      go : (t : Bool) → added_to first (xs ++ ys) ≡ added_to first xs ++ added_to first ys
          → cond t (added_to first (xs ++ ys)) (x ∷ added_to first (xs ++ ys))
          ≡ cond t (added_to first xs) (x ∷ added_to first xs) ++ added_to first ys
      go true e = e
      go false e = ap (λ (zs : List Element). x ∷ zs) e

  module _ (second : List Element) (place : ℕ) (l : place < length second) where
    one_more : take (place + 1) second ≡ take place second ++ (element_at second place ∷ [])
    unfolding element_at
    one_more = rw (add-one place) (take-suc second place _ l)

    added_more : added_to first (take (place + 1) second) ≡ added_to first (take place second) ++ added_to first (element_at second place ∷ [])
    added_more = ap (added_to first) one_more ∙ added_append (take place second) (element_at second place ∷ [])

    pub added_same : some_of (same_element (element_at second place)) first ≡ true
        → added_to first (take (place + 1) second) ≡ added_to first (take place second)
    unfolding added_to
    added_same t = added_more ∙ rw t (append-nil (added_to first (take place second)))

    pub added_one : some_of (same_element (element_at second place)) first ≡ false
        → added_to first (take (place + 1) second) ≡ added_to first (take place second) ++ (element_at second place ∷ [])
    unfolding added_to
    added_one f = added_more ∙ rw f

  -- no fewer are added by more of it
  pub added_front : (n : ℕ) (second : List Element) → length (added_to first (take n second)) ≤ length (added_to first second)
  added_front n second =
      let e = ap (added_to first) (sym (take-append-drop n second)) ∙ added_append (take n second) (drop n second) in
      let a = ap length e ∙ length-append (added_to first (take n second)) (added_to first (drop n second)) in
      omega arith
