-- Laws of the settings' definitions. A caller that cites these opens none of the definitions.
use Rattle.std.specs.Prelude.{◌≡◌, ℕ, ◌<◌, ◌≤◌, Bool, true, false, nat_lt, refl}
use Rattle.std.proofs.Common.{sym, ◌∙◌, arith}
use borrow.Author.Tests.{le-ltb, ltb-false}
use Rattle.centralized_telescope.specs.declared.params.Params.{Params}
use Rattle.centralized_telescope.specs.laws.TestLaws.{neither}
use Rattle.sampling.specs.core.FirstNumber.{first_number}
use Rattle.centralized_telescope.specs.core.Params.{not_one_to, set_size_out, limit_broken, checked, max_set_size, max_proof_size, max_retries}
use Rattle.centralized_telescope.specs.core.Params.{max_search_width, max_dfs_bound}
use Rattle.centralized_telescope.specs.later.VerdictExactly.{SetSizeKept, Limits, Lawful}

-- ---- a range

module _ {hi n : ℕ} where
  pub one_to : not_one_to hi n ≡ false → (1 ≤ n) × (n ≤ hi)
  unfolding not_one_to
  one_to e = let b = neither (nat_lt n 1) e in (ltb-false n 1 b.0, ltb-false hi n b.1)

-- ---- the check

module _ (p : Params) where
  pub size_kept : SetSizeKept p → set_size_out p.set_size ≡ false
  unfolding not_one_to
  size_kept k = rw (le-ltb p.set_size 1 k.0, le-ltb max_set_size p.set_size k.1)

  pub limits_kept : limit_broken p ≡ false → Limits p
  unfolding limit_broken
  limits_kept e =
      let a = neither (nat_lt max_proof_size p.proof_size) e in
      let b = neither (nat_lt max_retries p.max_retries) a.1 in
      let c = neither (nat_lt max_search_width p.search_width) b.1 in
      record {
        proof_size = ltb-false max_proof_size p.proof_size a.0;
        max_retries_kept = ltb-false max_retries p.max_retries b.0;
        search_width_kept = ltb-false max_search_width p.search_width c.0;
        dfs_bound_kept = ltb-false max_dfs_bound p.dfs_bound c.1;
      }

  pub within_limits : Limits p → limit_broken p ≡ false
  unfolding limit_broken
  within_limits l =
      rw (
        le-ltb max_proof_size p.proof_size l.proof_size,
        le-ltb max_retries p.max_retries l.max_retries_kept,
        le-ltb max_search_width p.search_width l.search_width_kept,
        le-ltb max_dfs_bound p.dfs_bound l.dfs_bound_kept,
      )

  -- by the tests, in the table's order
  pub set_size_refused : set_size_out p.set_size ≡ true → checked p ≡ 1
  unfolding checked first_number
  set_size_refused s = rw s

  module _ (s : set_size_out p.set_size ≡ false) where
    pub limit_refused : limit_broken p ≡ true → checked p ≡ 2
    unfolding checked first_number
    limit_refused l = rw (s, l)

    pub none_refused : limit_broken p ≡ false → checked p ≡ 0
    unfolding checked first_number
    none_refused l = rw (s, l)

    pub passes : Limits p → checked p ≡ 0
    passes l = none_refused (within_limits l)

  -- what a caller knows of settings that pass
  pub lawful : checked p ≡ 0 → Lawful p
  lawful e = go (set_size_out p.set_size) refl (limit_broken p) refl
    where
      never : {k : ℕ} → 0 < k → checked p ≡ k → Lawful p
      never l f = absurd (let z = sym f ∙ e in omega arith)

      go : (s : Bool) → set_size_out p.set_size ≡ s → (l : Bool) → limit_broken p ≡ l → Lawful p
      go true s l L = never (omega arith) (set_size_refused s)
      go false s true L = never (omega arith) (limit_refused s L)
      go false s false L = record { set_size = one_to s; limits = limits_kept L }

-- the check by its tests
pub ruleset check_told = (set_size_refused, limit_refused, none_refused)
