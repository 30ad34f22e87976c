-- The example on the counts of chains: with set_size 1 there is one bin, and of the first trees two digests tell what passes.
use Rattle.std.proofs.Common.{Bool, false, eqb, ◌++◌, ap, arith, ◌≡◌, ℕ, List, length, cond, ltb, ◌∷◌, [], take, replicate, refl, ◌∙◌}
use mathlib.Core.Option.{none, some}
use Rattle.std.specs.Prelude.{count_by}
use Rattle.std.proofs.lemmas.List.Sums.{sum_by-cons}
use Rattle.sampling.specs.core.FirstNumber.{first_number}
use Rattle.sampling.specs.core.Fips180.{sha256}
use Rattle.sampling.specs.laws.SampleLaws.{none_below}
use Rattle.centralized_telescope.specs.laws.TestLaws.{either_way}
use Rattle.centralized_telescope.specs.core.Lists.{some_of}
use Rattle.centralized_telescope.specs.core.Params.{not_one_to, limit_broken, checked}
use Rattle.centralized_telescope.specs.core.Elements.{elements, elements_from, end_wrong, malformed, data_long, too_large, list_check}
use Rattle.centralized_telescope.specs.core.Rounds.{proof_label, start_hash, says_yes}
use Rattle.centralized_telescope.specs.core.Bins.{places_from, by_bin, starts, table_of, bin_table}
use Rattle.centralized_telescope.specs.core.Chains.{Try, try_of, Chain}
use Rattle.centralized_telescope.specs.core.Search.{bin_list, places_in, id_of, grown, along, chains, chains_at, passing}
use Rattle.centralized_telescope.specs.laws.RoundsLaws.{drawn_below_one, bin_of_one}
use Rattle.centralized_telescope.specs.later.RaisingClaims.{half_settings}
use Rattle.centralized_telescope.specs.later.Shape.{shape_of, numbers_by_length, by_chains, shape_refusal, shaped}
use Rattle.centralized_telescope.specs.later.ShapeClaims.{one_lent, two_lent, case_j, ShapeExample}
use Rattle.centralized_telescope.proofs.RaisedDigests.{first_no, second_yes}
use Rattle.centralized_telescope.proofs.RaisedExampleHolds.{table_of_one}
use Rattle.centralized_telescope.proofs.ShapeAnswers.{shape_served}

-- ---- nothing is refused before the table is filled

half_passes : shape_refusal (half_settings 3 2) one_lent 2 4 ≡ 0
unfolding shape_refusal first_number checked not_one_to limit_broken list_check malformed some_of end_wrong too_large data_long
half_passes = refl

j_passes : (bound : ℕ) → checked (case_j bound) ≡ 0 → shape_refusal (case_j bound) two_lent 4 5 ≡ 0
unfolding shape_refusal first_number list_check malformed some_of end_wrong too_large data_long
j_passes bound ok = rw ok

-- ---- the trees

never_counted : (test : Chain → Bool) → ((c : Chain) → test c ≡ false) → (cs : List Chain) → count_by test cs ≡ 0
never_counted test never [] = refl
never_counted test never (c ∷ cs) =
    omega (
      arith,
      never_counted test never cs,
      sum_by-cons (λ (x : Chain). cond (test x) 1 0) c cs,
      ap (λ (b : Bool). cond {A = ℕ} b 1 0) (never c),
    )

abbrev half : Try
half = try_of (half_settings 3 2) (elements one_lent) 1

-- the start alone
half_tree : (S : ℕ) → chains_at half S ≡ record { search = S; places = []; last = start_hash 1 S } ∷ []
unfolding chains_at grown chains
half_tree S = rw (drawn_below_one (start_hash 1 S))

module _ (bound S : ℕ) where
  abbrev j : Try
  j = try_of (case_j bound) (elements two_lent) 1

  all_drawn : (h : List ℕ) → id_of j h ≡ some 0
  all_drawn h = drawn_below_one h

  both : places_in j 0 ≡ 0 ∷ 1 ∷ []
  unfolding places_in bin_list places_from elements_from
  both = rw (bin_of_one 1 (record { bytes = 97 ∷ []; index = none }), bin_of_one 1 (record { bytes = 98 ∷ []; index = none }))

  -- the chains are seven, whatever their hashes
  seven : length (chains_at j S) ≡ 7
  unfolding chains_at grown chains along
  seven = simp (all_drawn, both)

  by_length : numbers_by_length 2 (chains_at j S) ≡ 1 ∷ 2 ∷ 4 ∷ []
  unfolding numbers_by_length chains_at grown chains along
  by_length = simp (all_drawn, both)

  never_passing : (c : Chain) → passing j c ≡ false
  unfolding passing says_yes
  never_passing c = rw (none_below (take 16 (sha256 (proof_label ++ c.last)))) (either_way (eqb (length c.places) 2) false)

  none_pass : count_by (passing j) (chains_at j S) ≡ 0
  none_pass = never_counted (passing j) never_passing (chains_at j S)

  j_table : table_of 1 (bin_list 1 1 (take 2 (elements two_lent))) ≡ 0 ∷ 2 ∷ 0 ∷ 1 ∷ []
  unfolding bin_list elements_from places_from by_bin starts table_of
  j_table = rw (bin_of_one 1 (record { bytes = 97 ∷ []; index = none }), bin_of_one 1 (record { bytes = 98 ∷ []; index = none }))

  j_served : checked (case_j bound) ≡ 0
      → shaped (case_j bound) 1 S two_lent (replicate 4 9) (replicate 5 9)
      ≡ cond (ltb bound 7) (shape_of 50 0 (replicate 4 9) (0 ∷ 2 ∷ 0 ∷ 1 ∷ 9 ∷ []))
      (shape_of 0 0 (1 ∷ 2 ∷ 4 ∷ 9 ∷ []) (0 ∷ 2 ∷ 0 ∷ 1 ∷ 9 ∷ []))
  unfolding by_chains bin_table
  j_served ok =
      shape_served (case_j bound) 1 S two_lent (replicate 4 9) (replicate 5 9) (j_passes bound ok)
      ∙ rw (none_pass, by_length, seven, j_table)

half_answer : (S passed : ℕ) → count_by (passing half) (chains_at half S) ≡ passed
    → shaped (half_settings 3 2) 1 S one_lent (9 ∷ 9 ∷ []) (replicate 4 9) ≡ shape_of 0 passed (1 ∷ 9 ∷ []) (0 ∷ 1 ∷ 0 ∷ 0 ∷ [])
unfolding by_chains numbers_by_length bin_table
half_answer S passed n =
    shape_served (half_settings 3 2) 1 S one_lent (9 ∷ 9 ∷ []) (replicate 4 9) half_passes
    ∙ rw (n, half_tree S, table_of_one 1)

pub shape_example : ShapeExample
unfolding passing checked not_one_to limit_broken first_number
shape_example = (
  half_answer 0 0 (rw (half_tree 0, first_no)),
  half_answer 1 1 (rw (half_tree 1, second_yes)),
  λ S. j_served 7 S refl,
  λ S. j_served 6 S refl,
)
