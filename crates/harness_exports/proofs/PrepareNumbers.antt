-- The answers of prepare and commit in numbers.
use mathlib.Core.Path.{◌≡◌, ap}
use mathlib.Core.List.{List}
use Prim.Native.Nat.{ℕ}
use borrow.Author.Tests.{eq-eqb, ne_eqb}
use lib.ListN.{length}
use Rattle.centralized_telescope.specs.core.Elements.{Lent}
use Rattle.centralized_telescope.specs.later.Prepare.{prepared, committed}
use Rattle.centralized_telescope.specs.declared.params.Params.{Params}
use Rattle.harness_exports.specs.Exported.{exported_search, exported_prepare, exported_commit}

module _ (p : Params) (lent : Lent) (places_len table_len : ℕ) (out : List ℕ) where
  pub not_32_lent : (length out ≡ 32 → ⊥) → (8, out) ≡ exported_prepare p lent places_len table_len out
  unfolding exported_prepare
  not_32_lent h = rw (ne_eqb (length out) 32 h)

  module _ (k : ℕ) (digest : List ℕ) (e : (k, digest) ≡ prepared p lent places_len table_len) (l : length out ≡ 32) where
    pub not_prepared : (k ≡ 0 → ⊥) → (k, out) ≡ exported_prepare p lent places_len table_len out
    unfolding exported_prepare
    not_prepared n = rw (eq-eqb (length out) 32 l, ← e, ne_eqb k 0 n)

    pub is_prepared : k ≡ 0 → (last : List ℕ) → last ≡ digest
        → (0, last) ≡ exported_prepare p lent places_len table_len out
    unfolding exported_prepare
    is_prepared z last c =
        rw (eq-eqb (length out) 32 l, ← e, eq-eqb k 0 z, z) (ap (λ (b : List ℕ). (0, b)) c)

module _ (p : Params) (digest : List ℕ) (lent : Lent) (places table out : List ℕ) where
  pub not_32_handed : (length digest ≡ 32 → ⊥) → (8, places, table, out) ≡ exported_commit p digest lent places table out
  unfolding exported_commit
  not_32_handed h = rw (ne_eqb (length digest) 32 h)

  -- q is the settings made, d the digest copied into an array
  pub handed : (q : Params) → q ≡ p → length digest ≡ 32 → (d : List ℕ) → d ≡ digest
      → exported_search (committed q d lent places table) out ≡ exported_commit p digest lent places table out
  unfolding exported_commit
  handed q e h d c = rw (eq-eqb (length digest) 32 h, e, c)
