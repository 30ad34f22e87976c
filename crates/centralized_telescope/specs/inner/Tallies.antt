-- What the count of chains by length keeps: a tally, and the tally after some chains more. Nothing here is to be believed by a reader: the
-- contract of `count_chains` speaks of Shape alone, and the proofs tie these to it.
use Rattle.std.specs.Prelude.{◌≡◌, ℕ, ◌+◌, ◌<◌, ◌≤◌, Bool, cond, List, [], ◌∷◌, length, replicate, slice_index, slice_set, nat_lt, Result, OnOk}
use Rattle.sampling.specs.core.FirstNumber.{line}
use Rattle.centralized_telescope.specs.declared.errors.Refusal.{Refusal}
use Rattle.centralized_telescope.specs.declared.ready.ReadyTry.{ReadyTry}
use Rattle.centralized_telescope.specs.declared.shape.Tally.{Tally}
use Rattle.centralized_telescope.specs.core.Params.{max_proof_size}
use Rattle.centralized_telescope.specs.core.Refusals.{answer_number}
use Rattle.centralized_telescope.specs.core.Chains.{Try, Chain}
use Rattle.centralized_telescope.specs.core.Search.{places_in, passing}
use Rattle.centralized_telescope.specs.inner.Visit.{try_held}

-- ---- the tally

abbrev pub none_counted : Tally
none_counted = record { lengths = replicate (max_proof_size + 1) 0; total = 0; passing = 0 }

-- one chain more, of this length
abbrev pub one_more : ℕ → Bool → Tally → Tally
one_more len passes t =
    record {
      lengths = slice_set t.lengths len (slice_index t.lengths len + 1);
      total = t.total + 1;
      passing = t.passing + cond passes 1 0;
    }

-- some chains of a try more
unfoldable pub with_chains : Try → List Chain → Tally → Tally
with_chains T [] t = t
with_chains T (c ∷ cs) t = with_chains T cs (one_more (length c.places) (passing T c) t)

-- of no length and of no kind more than in all: so all numbers fit where that does
pub record Few (t : Tally) : Type 0 where
  pub lengths_few : (l : ℕ) → l < length t.lengths → slice_index t.lengths l ≤ t.total
  pub passing_few : t.passing ≤ t.total

-- ---- what the count is given

-- at a round with this id
pub record CanCount (t : ReadyTry) (id depth : ℕ) (tally : Tally) : Type 0 where
  pub id_below : id < t.settings.params.set_size
  pub deep : depth ≤ t.settings.params.proof_size
  pub few : Few tally
  pub within : tally.total ≤ t.settings.params.dfs_bound

-- along a bin's places
pub record CanCountAlong (t : ReadyTry) (candidates : List ℕ) (depth : ℕ) (tally : Tally) : Type 0 where
  pub bin : ℕ
  pub of_bin : candidates ≡ places_in (try_held t) bin
  pub deep : depth < t.settings.params.proof_size
  pub few : Few tally
  pub within : tally.total ≤ t.settings.params.dfs_bound

-- ---- what the code promises: 50 where the bound is passed with these chains, else the tally with them

pub record Counts (T : Try) (cs : List Chain) (old : Tally) (r : Result (Unit {0}) Refusal) (new : Tally) : Type 0 where
  pub number_is : answer_number r ≡ line 50 (nat_lt T.settings.dfs_bound (with_chains T cs old).total)
  pub counted : OnOk r (new ≡ with_chains T cs old)
