-- The verifier's chain as the code follows it, a round at a time, and its judgement in two parts.
use Rattle.std.specs.Prelude.{ℕ, not, List, [], ◌∷◌, ◌==◌}
use Rattle.std.proofs.Math.Option.{Option, none, some}
use Rattle.centralized_telescope.specs.declared.params.Params.{Params}
use Rattle.centralized_telescope.specs.declared.round.Round.{Round}
use Rattle.sampling.specs.core.FirstNumber.{line, first_number}
use Rattle.centralized_telescope.specs.core.Elements.{Element}
use Rattle.centralized_telescope.specs.core.Verifier.{follow, counters_out}

-- ---- the chain

abbrev pub ElementList : Type 0
ElementList = List Element

-- a round by its hash and the id that is drawn from it, if there is one
abbrev pub round_with : List ℕ → Option ℕ → Option Round
round_with h none = none
round_with h (some i) = some (record { hash = h; id = i })

-- the last hash of the chain of some elements behind a round, if there is one
abbrev pub followed : Params → ℕ → Option Round → List Element → Option (List ℕ)
followed p R none es = none
followed p R (some r) es = follow p R r.hash r.id es

-- the hash of a round, if there is one
abbrev pub hash_of : Option Round → Option (List ℕ)
hash_of none = none
hash_of (some r) = some r.hash

-- ---- the judgement

-- what the length n of a list and the counters say of it: 20, 21, or 0 where they leave it to the chain
abbrev pub counts_number : Params → ℕ → ℕ → ℕ → ℕ
counts_number p R S n = first_number (line 20 (not (n == p.proof_size)) ∷ line 21 (counters_out p R S) ∷ [])
