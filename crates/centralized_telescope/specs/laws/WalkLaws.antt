-- Laws of the bounded walk.
use Rattle.std.specs.Prelude.{◌≡◌, ℕ, ◌+◌, ◌≤◌, min, Bool, true, false, cond, List, [], ◌∷◌, ◌++◌, nat_le, nat_lt}
use Rattle.std.proofs.Math.Path.{refl, ap, sym}
use Rattle.std.proofs.Common.{◌∙◌}
use mathlib.Core.List.{Memᴰ}
use Rattle.std.proofs.Math.Option.{none, some}
use native.Mathlib.Omega.{arith}
use borrow.Author.Tests.{ltb-true, ltb-false, le-ltb, le-leb, lt-leb}
use Rattle.centralized_telescope.specs.laws.TestLaws.{either_way}
use Rattle.centralized_telescope.specs.core.Lists.{first_of, up_to_first}
use Rattle.centralized_telescope.specs.core.Chains.{Try, Chain}
use Rattle.centralized_telescope.specs.core.Search.{existing, passing, try_count, try_finds}
use Rattle.centralized_telescope.specs.inner.Walk.{Ended, found, missing, walk, counted, find}

module _ {A : Type 0} (test : A → Bool) (bound : ℕ) where
  -- with the bound reached nothing more is counted
  pub walk_full : (count : ℕ) (xs : List A) → bound ≤ count → walk test bound count xs ≡ missing count
  unfolding walk
  walk_full count [] h = refl
  walk_full count (x ∷ xs) h = rw (le-ltb count bound h)

  -- it counts the smaller of K and the bound
  pub walk_counts : (count : ℕ) (xs : List A) → count ≤ bound → counted (walk test bound count xs) ≡ min (count + up_to_first test xs) bound
  unfolding walk up_to_first
  walk_counts count [] h = omega arith
  walk_counts count (x ∷ xs) h = go (nat_lt count bound) refl (test x) (walk_counts (count + 1) xs)
    where
      go : (w : Bool) → nat_lt count bound ≡ w → (t : Bool)
          → (count + 1 ≤ bound → counted (walk test bound (count + 1) xs) ≡ min (count + 1 + up_to_first test xs) bound)
          → counted (cond w (cond t (found (count + 1) x) (walk test bound (count + 1) xs)) (missing count))
          ≡ min (count + cond t 1 (1 + up_to_first test xs)) bound
      go true e true rest = let l = ltb-true count bound e in omega arith
      go true e false rest = let l = ltb-true count bound e in rest (omega arith) ∙ omega arith
      go false e true rest = let l = ltb-false count bound e in omega arith
      go false e false rest = let l = ltb-false count bound e in omega arith

  -- it finds the first for which the test says yes exactly when K is within the bound
  pub walk_finds : (count : ℕ) (xs : List A) → count ≤ bound
      → find (walk test bound count xs) ≡ cond (nat_le (count + up_to_first test xs) bound) (first_of test xs) none
  unfolding walk up_to_first first_of
  walk_finds count [] h = sym (either_way (nat_le (count + 0) bound) none)
  walk_finds count (x ∷ xs) h = go (nat_lt count bound) refl (test x) (walk_finds (count + 1) xs)
    where
      go : (w : Bool) → nat_lt count bound ≡ w → (t : Bool)
          → (count + 1 ≤ bound → find (walk test bound (count + 1) xs) ≡ cond (nat_le (count + 1 + up_to_first test xs) bound) (first_of test xs)
          none)
          → find (cond w (cond t (found (count + 1) x) (walk test bound (count + 1) xs)) (missing count))
          ≡ cond (nat_le (count + cond t 1 (1 + up_to_first test xs)) bound) (cond t (some x) (first_of test xs)) none
      go true e true rest = rw (le-leb (count + 1) bound (omega (arith, ltb-true count bound e)))
      go true e false rest =
          rest (omega (arith, ltb-true count bound e))
          ∙ ap (λ (k : ℕ). cond (nat_le k bound) (first_of test xs) none) (omega arith)
      go false e true rest = rw (lt-leb (count + 1) bound (omega (arith, ltb-false count bound e)))
      go false e false rest = rw (lt-leb (count + (1 + up_to_first test xs)) bound (omega (arith, ltb-false count bound e)))

  -- ---- in parts

  -- along two lists: along the first and then, from where that ended, along the second
  unfoldable pub and_then : Ended A → (ℕ → Ended A) → Ended A
  and_then (found count x) go = found count x
  and_then (missing count) go = go count

  pub walk_append : (count : ℕ) (xs ys : List A)
      → walk test bound count (xs ++ ys) ≡ and_then (walk test bound count xs) (λ (t : ℕ). walk test bound t ys)
  unfolding walk and_then
  walk_append count [] ys = refl
  walk_append count (x ∷ xs) ys = go (nat_lt count bound) refl (test x) (walk_append (count + 1) xs ys)
    where
      go : (w : Bool) → nat_lt count bound ≡ w → (t : Bool)
          → walk test bound (count + 1) (xs ++ ys) ≡ and_then (walk test bound (count + 1) xs) (λ (t : ℕ). walk test bound t ys)
          → cond w (cond t (found (count + 1) x) (walk test bound (count + 1) (xs ++ ys))) (missing count)
          ≡ and_then (cond w (cond t (found (count + 1) x) (walk test bound (count + 1) xs)) (missing count))
          (λ (t : ℕ). walk test bound t ys)
      go true e true rest = refl
      go true e false rest = rest
      go false e t rest = sym (walk_full count ys (ltb-false count bound e))

  -- it never counts past the bound
  pub walk_bound : (count : ℕ) (xs : List A) → count ≤ bound → counted (walk test bound count xs) ≤ bound
  walk_bound count xs h = let e = walk_counts count xs h in omega arith

  -- along one, it finds that one or none
  pub walk_one : (count : ℕ) (x : A) (t : ℕ) (y : A) → walk test bound count (x ∷ []) ≡ found t y → y ≡ x
  unfolding walk
  walk_one count x t y e = go (nat_lt count bound) (test x) e
    where
      go : (w o : Bool) → cond w (cond o (found (count + 1) x) (missing (count + 1))) (missing count) ≡ found t y → y ≡ x
      go true true e = cc
      go true false e = let z : ◌≡◌ {A = ℕ} 0 1 = cc in absurd (omega arith)
      go false o e = let z : ◌≡◌ {A = ℕ} 0 1 = cc in absurd (omega arith)

  -- what it finds is one of them
  pub walk_among : (count : ℕ) (xs : List A) (t : ℕ) (y : A) → walk test bound count xs ≡ found t y → Memᴰ y xs
  unfolding walk
  walk_among count [] t y e = let z : ◌≡◌ {A = ℕ} 0 1 = cc in absurd (omega arith)
  walk_among count (x ∷ xs) t y e = go (nat_lt count bound) (test x) (walk_among (count + 1) xs t y) e
    where
      go : (w o : Bool) → (walk test bound (count + 1) xs ≡ found t y → Memᴰ y xs)
          → cond w (cond o (found (count + 1) x) (walk test bound (count + 1) xs)) (missing count) ≡ found t y
          → Memᴰ y (x ∷ xs)
      go true true rest e = let z : y ≡ x = cc in Memᴰ.head z
      go true false rest e = Memᴰ.tail (rest e)
      go false o rest e = let z : ◌≡◌ {A = ℕ} 0 1 = cc in absurd (omega arith)

-- of a try
module _ (T : Try) where
  abbrev pub try_walk : Ended Chain
  try_walk = walk (passing T) T.settings.dfs_bound 0 (existing T)

  pub try_counts : counted try_walk ≡ try_count T
  unfolding try_count
  try_counts =
      walk_counts (passing T) T.settings.dfs_bound 0 (existing T) (omega arith)
      ∙ ap (λ (k : ℕ). min k T.settings.dfs_bound) (omega arith)

  pub try_finds_lem : find try_walk ≡ try_finds T
  unfolding try_finds
  try_finds_lem =
      walk_finds (passing T) T.settings.dfs_bound 0 (existing T) (omega arith)
      ∙ ap (λ (k : ℕ). cond (nat_le k T.settings.dfs_bound) (first_of (passing T) (existing T)) none) (omega arith)
