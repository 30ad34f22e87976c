-- With set_size 1 every draw is 0: all kept places are in the one bin and every round exists, so that the existing chains of a try are
-- counted without a hash. With X 0 none of them passes, so that all tries are made.
use Rattle.std.specs.Prelude.{◌≡◌, ℕ, zero, suc, ◌+◌, ◌*◌, min, Bool, false, List, [], ◌∷◌, ◌++◌, length, take, ◌==◌, nat_le}
use Rattle.std.proofs.Math.Path.{refl, ap}
use Rattle.std.proofs.Common.{◌∙◌, length-append}
use Rattle.std.proofs.Math.Option.{none, some}
use native.Mathlib.Omega.{arith}
use Rattle.sampling.specs.core.Fips180.{sha256}
use Rattle.sampling.specs.laws.SampleLaws.{none_below}
use Rattle.centralized_telescope.specs.declared.params.Params.{Params}
use Rattle.centralized_telescope.specs.laws.TestLaws.{either_way}
use Rattle.centralized_telescope.specs.core.Elements.{Element}
use Rattle.centralized_telescope.specs.core.Lists.{first_of, up_to_first}
use Rattle.centralized_telescope.specs.core.Rounds.{proof_label, start_hash, says_yes}
use Rattle.centralized_telescope.specs.laws.RoundsLaws.{drawn_below_one, bin_of_one}
use Rattle.centralized_telescope.specs.core.Bins.{places_from}
use Rattle.centralized_telescope.specs.core.Chains.{Try, try_of, Chain}
use Rattle.centralized_telescope.specs.core.Search.{bin_list, places_in, next_at, id_of, grown, along, chains, chains_at, chains_from}
use Rattle.centralized_telescope.specs.core.Search.{existing, passing, try_count, try_finds, unless_found, tries_from}

-- 1 + m + m^2 + .. + m^k: the chains of at most k places, all of them out of m
unfoldable pub tree_size : ℕ → ℕ → ℕ
tree_size m zero = 1
tree_size m (suc k) = 1 + m * tree_size m k

-- ---- a list of which none is as asked for

module _ {A : Type 0} (test : A → Bool) (never : (x : A) → test x ≡ false) where
  pub first_never : (xs : List A) → first_of test xs ≡ none
  unfolding first_of
  first_never [] = refl
  first_never (x ∷ xs) = rw (never x) (first_never xs)

  pub all_counted : (xs : List A) → up_to_first test xs ≡ length xs
  unfolding up_to_first
  all_counted [] = refl
  all_counted (x ∷ xs) = rw (never x) (omega (arith, all_counted xs))

-- ---- with set_size 1

-- all places are in the bin 0
length_one_bin : (R at : ℕ) (kept : List Element) → length (places_from at (bin_list 1 R kept) 0) ≡ length kept
unfolding places_from bin_list
length_one_bin R at [] = refl
length_one_bin R at (e ∷ kept) = rw (bin_of_one R e) (ap suc (length_one_bin R (at + 1) kept))

module _ (T : Try) (one : T.settings.set_size ≡ 1) where
  length_bin : length (places_in T 0) ≡ length T.kept
  unfolding places_in
  length_bin = rw one (length_one_bin T.retry 0 T.kept)

  id_zero : (h : List ℕ) → id_of T h ≡ some 0
  id_zero h = rw one (drawn_below_one h)

  length_along : (grow : List ℕ → ℕ → List ℕ → List Chain) (g : ℕ) → ((h places : List ℕ) → length (grow h 0 places) ≡ g)
      → (h places es : List ℕ) → length (along T grow h places es) ≡ length es * g
  unfolding along grown
  length_along grow g G h places [] = omega arith
  length_along grow g G h places (e ∷ es) =
      rw (id_zero (next_at T h e), length-append) (omega (arith, G (next_at T h e) (places ++ (e ∷ [])), length_along grow g G h places es))

  length_chains : (S k : ℕ) (h places : List ℕ) → length (chains T S k h 0 places) ≡ tree_size (length T.kept) k
  unfolding chains tree_size
  length_chains S zero h places = refl
  length_chains S (suc k) h places =
      let e : length (along T (chains T S k) h places (places_in T 0)) ≡ length T.kept * tree_size (length T.kept) k
      = length_along (chains T S k) (tree_size (length T.kept) k) (length_chains S k) h places (places_in T 0)
      ∙ ap (λ (m : ℕ). m * tree_size (length T.kept) k) length_bin in
      omega arith

  length_from : (w S : ℕ) → length (chains_from T w S) ≡ w * tree_size (length T.kept) T.settings.proof_size
  unfolding chains_from chains_at grown
  length_from zero S = omega arith
  length_from (suc w) S =
      rw (id_zero (start_hash T.retry S), length-append)
      (omega (arith, length_chains S T.settings.proof_size (start_hash T.retry S) [], length_from w (S + 1)))

  -- ---- and where nothing passes

  module _ (no : (h : List ℕ) → says_yes T.settings.x h ≡ false) where
    passing_never : (c : Chain) → passing T c ≡ false
    unfolding passing
    passing_never c = rw (no c.last) (either_way (length c.places == T.settings.proof_size) false)

    pub count_whole : try_count T ≡ min (T.settings.search_width * tree_size (length T.kept) T.settings.proof_size)
        T.settings.dfs_bound
    unfolding try_count
    count_whole = rw (all_counted (passing T) passing_never (existing T), length_from T.settings.search_width 0)

    pub none_found : try_finds T ≡ none
    unfolding try_finds
    none_found =
        rw (first_never (passing T) passing_never (existing T))
        (either_way (nat_le (up_to_first (passing T) (existing T)) T.settings.dfs_bound) none)

-- ---- tries of which none finds: all are made

module _ (p : Params) (es : List Element) (finds : (R : ℕ) → try_finds (try_of p es R) ≡ none) where
  pub tries_find_none : (w R sum : ℕ) → (tries_from p es w R sum).proof ≡ none
  unfolding tries_from unless_found
  tries_find_none zero R sum = refl
  tries_find_none (suc w) R sum = rw (finds (R + 1)) (tries_find_none w (R + 1) _)

  pub tries_count : (k : ℕ) → ((R : ℕ) → try_count (try_of p es R) ≡ k) → (w R sum : ℕ) → (tries_from p es w R sum).count ≡ sum + w * k
  unfolding tries_from unless_found
  tries_count k C zero R sum = omega arith
  tries_count k C (suc w) R sum = rw (finds (R + 1), C (R + 1)) (tries_count k C w (R + 1) (sum + k) ∙ omega arith)

-- ---- with X 0 nothing passes: no number is below it

pub never_yes : (h : List ℕ) → says_yes (record { hi = 0; lo = 0 }) h ≡ false
unfolding says_yes
never_yes h = none_below (take 16 (sha256 (proof_label ++ h)))
