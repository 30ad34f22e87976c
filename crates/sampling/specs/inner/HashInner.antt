-- What the inner functions of the hash promise each other about words and rounds. No public call's contract needs any of it.
use Rattle.std.specs.Prelude.{◌≡◌, ℕ, ◌<◌, ◌≤◌, List, length, slice_index}
use Rattle.sampling.specs.core.Fips180.{K256, W, rounds}
use Rattle.sampling.specs.declared.sha256.State.{State}

-- t rounds over the block M are done, from the hash value h: v are the working variables, and w has the schedule's words before t and the
-- constants from t on
pub record AfterRounds (h : State) (M : List ℕ) (t : ℕ) (v : State) (w : List ℕ) : Type 0 where
  pub variables : v ≡ rounds h (W M 64) t
  pub size : length w ≡ 64
  pub word : (n : ℕ) → n < t → slice_index w n ≡ slice_index (W M 64) n
  pub constant : (n : ℕ) → t ≤ n → n < 64 → slice_index w n ≡ slice_index K256 n

-- the rounds from t to s, as they lead from v and w to r and x
abbrev pub RoundsFrom : List ℕ → ℕ → ℕ → State → List ℕ → State → List ℕ → Type 0
RoundsFrom M t s v w r x = (h : State) → AfterRounds h M t v w → AfterRounds h M s r x
