-- Document 01, Verifier.
use Rattle.std.specs.Prelude.{ℕ, Bool, false, cond, not, ◌||◌, List, [], ◌∷◌, length, ◌==◌, nat_le, Result, Ok, Err}
use Rattle.std.proofs.Math.Option.{Option, none, some}
use Rattle.sampling.specs.declared.sample.U128.{U128}
use Rattle.centralized_telescope.specs.declared.params.Params.{Params}
use Rattle.centralized_telescope.specs.core.Params.{checked}
use Rattle.centralized_telescope.specs.core.Elements.{Element, elements, list_check, Lent}
use Rattle.sampling.specs.core.FirstNumber.{line, first_number}
use Rattle.centralized_telescope.specs.core.Refusals.{refusal_number}
use Rattle.centralized_telescope.specs.core.Rounds.{start_hash, next_hash, round_id, bin_of, says_yes}
use Rattle.centralized_telescope.specs.declared.proof.Rejection.{Rejection}
use Rattle.centralized_telescope.specs.declared.proof.Rejection.TheVariants as answer

-- ---- the last hash of the chain of a proof's elements, from the first to the last, if it exists

unfoldable pub if_some : {A : Type 0} → Option ℕ → (ℕ → Option A) → Option A
if_some none f = none
if_some (some i) f = f i

-- 01, Search, existence: there is a bin, and it is the id i
abbrev pub is_bin : Option ℕ → ℕ → Bool
is_bin none i = false
is_bin (some bin) i = bin == i

-- from a round with the hash h and the id i on
unfoldable pub follow : Params → ℕ → List ℕ → ℕ → List Element → Option (List ℕ)
follow p R h i [] = some h
follow p R h i (e ∷ es) =
    cond (is_bin (bin_of p.set_size R e) i)
    (if_some (round_id p.set_size (next_hash h e)) (λ (j : ℕ). follow p R (next_hash h e) j es))
    none

unfoldable pub last_hash : Params → ℕ → ℕ → List Element → Option (List ℕ)
last_hash p R S es = if_some (round_id p.set_size (start_hash R S)) (λ (i : ℕ). follow p R (start_hash R S) i es)

-- whether that chain, being of proof_size elements, passes
abbrev pub yes_on : U128 → Option (List ℕ) → Bool
yes_on x none = false
yes_on x (some h) = says_yes x h

-- ---- the verdict

-- verifier, 21, InvalidParameters: a counter is at its limit or over
abbrev pub counters_out : Params → ℕ → ℕ → Bool
counters_out p R S = nat_le p.search_width S || nat_le p.max_retries R

-- 01, Verifier, the order: 20 for a wrong length, 21 for a counter out of its limit, 22 for no chain that passes
unfoldable pub judged : Params → ℕ → ℕ → List Element → ℕ
judged p R S es =
    first_number
    (line 20 (not (length es == p.proof_size))
    ∷ line 21 (counters_out p R S)
    ∷ line 22 (not (yes_on p.x (last_hash p R S es)))
    ∷ [])

-- the number of the first line that the call meets, or 0
unfoldable pub verdict : Params → ℕ → ℕ → Lent → ℕ
verdict p R S lent = first_number (checked p ∷ list_check lent ∷ judged p R S (elements lent) ∷ [])

-- 01's number for each answer of the verifier
abbrev pub verdict_by : Result (Unit {0}) Rejection → ℕ
verdict_by (Ok _) = 0
verdict_by (Err answer.IncorrectNumberElements) = 20
verdict_by (Err answer.InvalidParameters) = 21
verdict_by (Err answer.InvalidProof) = 22
verdict_by (Err (answer.Refused k)) = refusal_number k
