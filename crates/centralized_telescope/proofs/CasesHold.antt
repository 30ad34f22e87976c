-- Cases a to l: the sampler's and the small case's are computed, the searches' counted without a hash.
use Rattle.std.proofs.Common.{◌≡◌, ℕ, ◌*◌, min, false, cond, leb, List, length, take, sym, refl, ap, ◌∙◌, arith, length-take}
use mathlib.Core.Option.{Option, none}
use lib.Ieee.{Float, is_nan, lt, of_int, round, add, mul, div}
use lib.ListN.{length-replicate}
use Rattle.sampling.specs.core.BigEndian.{big_endian}
use Rattle.sampling.specs.core.FirstNumber.{first_number}
use Rattle.sampling.specs.core.Sample.{is_power, mod_not_power, uniform, bernoulli}
use Rattle.sampling.specs.later.Threshold.{outside, threshold, converted}
use Rattle.sampling.specs.laws.SampleLaws.{drawn_of_one}
use Rattle.centralized_telescope.specs.declared.params.Params.{Params}
use Rattle.centralized_telescope.specs.core.Params.{not_one_to, checked}
use Rattle.centralized_telescope.specs.later.SmallCase.{as_double, L, floor, ceil, before_ceil, search_width, before_floor, dfs_bound}
use Rattle.centralized_telescope.specs.later.SmallCase.{proof_size_out, completeness_out, small_case, small_settings}
use Rattle.centralized_telescope.specs.laws.SmallCaseLaws.{settings_given}
use Rattle.centralized_telescope.specs.laws.ParamsLaws.{within_limits, none_refused}
use Rattle.centralized_telescope.specs.core.Elements.{Element, elements, end_wrong, malformed, data_long, too_large, list_check}
use Rattle.centralized_telescope.specs.laws.ElementsLaws.{length_elements}
use Rattle.centralized_telescope.specs.core.Lists.{Each, some_of}
use Rattle.centralized_telescope.specs.core.Chains.{Chain, try_of}
use Rattle.centralized_telescope.specs.core.Rounds.{says_yes}
use Rattle.centralized_telescope.specs.core.Prover.{by_search, answered}
use Rattle.centralized_telescope.specs.core.Search.{try_finds, searched}
use Rattle.centralized_telescope.specs.laws.OneBinLaws.{tree_size, count_whole, none_found, tries_find_none, tries_count, never_yes}
use Rattle.centralized_telescope.specs.later.AllCases.{Holds, case_settings, RunGives, cases, AllCases, CasesServed}
use Rattle.centralized_telescope.proofs.ProveAnswers.{served_so}

-- ---- h

small : (u d bound : ℕ) → proof_size_out u ≡ false → search_width u ≡ d → dfs_bound u (search_width u) ≡ bound
    → (c : Float) → completeness_out c ≡ false
    → ((small_case u c).0 ≡ 0) × ((small_case u c).1.search_width ≡ d) × ((small_case u c).1.dfs_bound ≡ bound)
unfolding small_settings
small u d bound s w b c o = rw (settings_given u c s o) (refl, w, b)

-- ---- i to l

module _ (size width retries bound : ℕ) where
  abbrev p : Params
  p = case_settings size width retries bound

  -- the count where m elements are kept: of each try all its chains, or the bound
  abbrev counted : ℕ → ℕ
  counted m = retries * min (width * tree_size m size) bound

  module _ (es : List Element) where
    -- X of q 0 is 0
    never : (h : List ℕ) → says_yes p.x h ≡ false
    unfolding is_nan lt outside threshold converted
    never h = never_yes h

    finds : (R : ℕ) → try_finds (try_of p es R) ≡ none
    finds R = none_found (try_of p es R) refl never

    proof_is : (searched p es).proof ≡ none
    unfolding searched
    proof_is = tries_find_none p es finds retries 0 0

    count_is : (searched p es).count ≡ counted (length (take 2 es))
    unfolding searched
    count_is = tries_count p es finds _ (λ R. count_whole (try_of p es R) refl never) retries 0 0 ∙ omega arith

  answered_none : (o : Option Chain) (R sum : ℕ) (places table : List ℕ) → o ≡ none
      → ((answered p o R sum places table).number ≡ cond (leb bound sum) 11 12) × ((answered p o R sum places table).count ≡ sum)
  unfolding answered
  answered_none o R sum places table e = rw e (refl, refl)

  run_ends : (n number count : ℕ) → count ≡ counted (min 2 n) → number ≡ cond (leb bound count) 11 12 → RunGives p n number count
  unfolding by_search
  run_ends n number count C N lent places table S E =
      let es = elements lent in
      let kept : length (take 2 es) ≡ min 2 n =
      length-take 2 es ∙ ap (λ (k : ℕ). min 2 k) (length_elements lent S.list ∙ E) in
      let sum : (searched p es).count ≡ count = count_is es ∙ ap counted kept ∙ sym C in
      let a = answered_none (searched p es).proof (searched p es).made (searched p es).count places _ (proof_is es) in
      rw (served_so p lent places table S) (a.0 ∙ ap (λ (k : ℕ). cond (leb bound k) 11 12) sum ∙ sym N, a.1 ∙ sum)

-- ---- all of them

infixr 10 ◌&◌
abbrev ◌&◌ : {A B : Type 0} → A → B → A × B
a & b = (a, b)

pub all_cases : AllCases
unfolding Each cases Holds is_nan lt of_int round add mul div big_endian is_power mod_not_power uniform outside threshold converted
    bernoulli not_one_to as_double L floor ceil before_ceil search_width before_floor dfs_bound tree_size
all_cases =
    refl
    & drawn_of_one
    & refl
    & refl
    & refl
    & refl
    & (refl, refl)
    & (refl, refl)
    & (refl, refl)
    & (refl, refl)
    & (refl, refl)
    & (refl, refl)
    & small 1 80 515 refl refl refl
    & small 200 15904 10291586 refl refl refl
    & refl
    & run_ends 2 1 3 100 1 12 9 refl refl
    & run_ends 2 1 3 9 1 11 9 refl refl
    & run_ends 2 1 1 100 2 12 7 refl refl
    & run_ends 2 1 1 4 2 11 4 refl refl
    & run_ends 0 2 1 5 1 12 2 refl refl
    & run_ends 0 2 1 2 1 11 2 refl refl
    & (λ u w. run_ends u w 0 0 1 11 0 (omega arith) refl)
    & (λ u w. run_ends u w 0 1 1 12 0 (omega arith) refl)
    & tt

-- ---- such runs are served

pub cases_served : CasesServed
unfolding list_check malformed some_of end_wrong too_large data_long first_number not_one_to
cases_served size width retries bound L =
    let p = case_settings size width retries bound in
    let s : checked p ≡ 0 = none_refused p refl (within_limits p L) in
    let places = length-replicate {A = ℕ} size 0 in (
      record { settings = s; list = refl; at_least = omega arith; places_enough = omega arith; table_enough = omega arith },
      record { settings = s; list = refl; at_least = omega arith; places_enough = omega arith; table_enough = omega arith },
    )
