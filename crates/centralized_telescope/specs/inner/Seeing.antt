-- What a party is refused before the lent bin table is looked at, and what the code keeps of a table that it has looked at.
use Rattle.std.specs.Prelude.{◌≡◌, ℕ, not, List, [], ◌∷◌, ◌==◌, Option, Some, None}
use Rattle.sampling.specs.core.FirstNumber.{line, first_number}
use Rattle.centralized_telescope.specs.declared.products.PartyAnswer.{PartyAnswer}
use Rattle.centralized_telescope.specs.declared.products.Seen.{Seen}
use Rattle.centralized_telescope.specs.declared.params.Params.{Params}
use Rattle.centralized_telescope.specs.core.Elements.{elements, Lent}
use Rattle.centralized_telescope.specs.core.Prover.{prover_refusal, proved_by}
use Rattle.centralized_telescope.specs.later.TwoProducts.{table_right, tried_alone}

-- the first number before the table is looked at
abbrev pub early_refusal : Params → Lent → ℕ → ℕ → ℕ → ℕ → ℕ
early_refusal p lent R table_retry places_len table_len =
    first_number (prover_refusal p lent places_len table_len ∷ line 47 (not (R == table_retry)) ∷ [])

-- what is kept, if anything, is true of the table
abbrev pub TrueOf : Lent → ℕ → List ℕ → Option Seen → Type 0
TrueOf lent R table (Some seen) = seen.right ≡ table_right seen.n R (elements lent) table
TrueOf lent R table None = Unit {0}

-- a party's answer, with its places afterwards
pub record PartyServed (lent : Lent) (table_retry : ℕ) (table : List ℕ) (p : Params) (R : ℕ) (places after : List ℕ) (r : PartyAnswer)
    : Type 0 where
  pub answer_is : proved_by r.answer after table ≡ tried_alone lent table_retry table p R places
  pub seen_true : TrueOf lent table_retry table r.seen
