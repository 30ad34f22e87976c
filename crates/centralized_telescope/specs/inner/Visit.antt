-- What the parts of the search's code give, in the terms of Search and of Walk. Nothing here is to be believed by a reader: the
-- contract of `prove` speaks of Prover alone, and the proofs tie these to it.
use Rattle.std.specs.Prelude.{◌≡◌, ℕ, ◌+◌, ◌-◌, ◌<◌, ◌≤◌, cond, List, nat_lt}
use Rattle.centralized_telescope.specs.declared.params.Params.{Params}
use Rattle.centralized_telescope.specs.declared.round.SearchCounter.{SearchCounter}
use Rattle.std.specs.declared.ops.ControlFlow.{ControlFlow}
use Rattle.std.specs.declared.ops.ControlFlow.TheVariants.{Break, Continue}
use Rattle.centralized_telescope.specs.core.Lists.{over}
use Rattle.centralized_telescope.specs.core.Chains.{Try, Chain}
use Rattle.centralized_telescope.specs.core.Search.{places_in, along, chains, chains_from, passing}
use Rattle.centralized_telescope.specs.inner.SourceHeld.{source_held}
use Rattle.centralized_telescope.specs.inner.TryTables.{try_on}
use Rattle.centralized_telescope.specs.declared.ready.ReadyTry.{ReadyTry}
use Rattle.centralized_telescope.specs.inner.Walk.{Ended, found, missing, walk}

-- ---- the walk of some of a try's chains, after `count` steps

-- of those that begin with a round at a depth
unfoldable pub visited : Try → ℕ → List ℕ → ℕ → List ℕ → ℕ → ℕ → Ended Chain
visited T S h i places depth count =
    walk (passing T) T.settings.dfs_bound count (chains T S (T.settings.proof_size - depth) h i places)

-- of those that grow from a round at a depth by one of some candidates
unfoldable pub walked : Try → ℕ → List ℕ → List ℕ → ℕ → List ℕ → ℕ → Ended Chain
walked T S h places depth candidates count =
    walk (passing T) T.settings.dfs_bound count (along T (chains T S (T.settings.proof_size - (depth + 1))) h places candidates)

-- of those of w search counters from S on
unfoldable pub tried : Try → ℕ → ℕ → ℕ → Ended Chain
tried T w S count = walk (passing T) T.settings.dfs_bound count (chains_from T w S)

-- ---- the answers, and the lent places afterwards

abbrev pub outcome_of : Ended Chain → ControlFlow ℕ ℕ
outcome_of (found count c) = Break count
outcome_of (missing count) = Continue count

abbrev pub attempt_of : Ended Chain → ControlFlow (SearchCounter × ℕ) ℕ
attempt_of (found count c) = Break (record { 0 = c.search }, count)
attempt_of (missing count) = Continue count

unfoldable pub written : Ended Chain → List ℕ → List ℕ
written (found count c) places = over c.places places
written (missing count) places = places

-- after a visit: a chain of full length is written by the walk that led to it
unfoldable pub written_from : Params → ℕ → Ended Chain → List ℕ → List ℕ
written_from p depth r places = cond (nat_lt depth p.proof_size) (written r places) places

-- ---- what the search is given: a try that is ready, and room for its places

abbrev pub try_held : ReadyTry → Try
try_held t = try_on t.settings.params (source_held t.source) t.retry.0

-- a visit at a depth of a round with this id
pub record CanVisit (t : ReadyTry) (room id depth steps : ℕ) : Type 0 where
  pub roomy : t.settings.params.proof_size ≤ room
  pub id_below : id < t.settings.params.set_size
  pub deep : depth ≤ t.settings.params.proof_size
  pub within : steps < t.settings.params.dfs_bound

-- a walk of a bin's places
pub record CanWalk (t : ReadyTry) (room : ℕ) (candidates : List ℕ) (depth steps : ℕ) : Type 0 where
  pub roomy : t.settings.params.proof_size ≤ room
  pub bin : ℕ
  pub of_bin : candidates ≡ places_in (try_held t) bin
  pub deep : depth < t.settings.params.proof_size
  pub within : steps ≤ t.settings.params.dfs_bound

-- ---- what the code promises: its answer, and the lent places afterwards

pub record Answers {A : Type 0} (answer said : A) (after left : List ℕ) : Type 0 where
  pub answer_is : answer ≡ said
  pub places_are : after ≡ left

abbrev pub VisitEnds : Params → ℕ → Ended Chain → ControlFlow ℕ ℕ → List ℕ → List ℕ → Type 0
VisitEnds p depth w r places after = Answers r (outcome_of w) after (written_from p depth w places)

abbrev pub WalkEnds : Ended Chain → ControlFlow ℕ ℕ → List ℕ → List ℕ → Type 0
WalkEnds w r places after = Answers r (outcome_of w) after (written w places)

abbrev pub TryEnds : Ended Chain → ControlFlow (SearchCounter × ℕ) ℕ → List ℕ → List ℕ → Type 0
TryEnds w r places after = Answers r (attempt_of w) after (written w places)
