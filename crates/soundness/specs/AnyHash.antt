-- Document 01, Rounds, Search and Verifier, with any function of strings in SHA-256's place. With SHA-256 it is `verdict`: `seldom_green`.
use Rattle.std.specs.Prelude.{Bool, false, cond, not, List, [], ◌∷◌, ◌++◌, ℕ, eqb, length, take}
use Rattle.std.proofs.Math.Option.{Option, none, some}
use Rattle.sampling.specs.core.BigEndian.{bytes_of}
use Rattle.sampling.specs.core.Sample.{value_of, bernoulli}
use Rattle.sampling.specs.declared.sample.U128.{U128}
use Rattle.centralized_telescope.specs.declared.params.Params.{Params}
use Rattle.sampling.specs.core.FirstNumber.{line, first_number}
use Rattle.centralized_telescope.specs.core.Params.{checked}
use Rattle.centralized_telescope.specs.core.Elements.{Element, tail, Lent, elements, list_check}
use Rattle.centralized_telescope.specs.core.Rounds.{round_label, bin_label, proof_label, drawn_below, round_id}
use Rattle.centralized_telescope.specs.core.Verifier.{if_some, is_bin, counters_out}

-- ---- what is hashed

-- 01, Rounds, for a start hash and for a next one
abbrev pub start_input : ℕ → ℕ → List ℕ
start_input R S = round_label ++ (bytes_of 8 R ++ bytes_of 8 S)

abbrev pub next_input : List ℕ → Element → List ℕ
next_input h e = round_label ++ (h ++ tail e)

-- 01, Search, for an element's bin, and for the yes or no on a last hash
abbrev pub bin_input : ℕ → Element → List ℕ
bin_input R e = bin_label ++ (bytes_of 8 R ++ tail e)

abbrev pub last_input : List ℕ → List ℕ
last_input h = proof_label ++ h

-- ---- the verifier, as in Rounds and Verifier of `centralized_telescope`

module _ (hash : List ℕ → List ℕ) where
  -- 01, Search, the bin of an element
  abbrev pub bin_with : ℕ → ℕ → Element → Option ℕ
  bin_with n R e = drawn_below n (hash (bin_input R e))

  -- 01, Search, existence: the last hash of a proof's elements, from a round with the hash h and the id i on
  unfoldable pub follow_with : Params → ℕ → List ℕ → ℕ → List Element → Option (List ℕ)
  follow_with p R h i [] = some h
  follow_with p R h i (e ∷ es) =
      cond (is_bin (bin_with p.set_size R e) i)
      (if_some (round_id p.set_size (hash (next_input h e))) (λ (j : ℕ). follow_with p R (hash (next_input h e)) j es))
      none

  abbrev pub last_with : Params → ℕ → ℕ → List Element → Option (List ℕ)
  last_with p R S es =
      if_some (round_id p.set_size (hash (start_input R S))) (λ (i : ℕ). follow_with p R (hash (start_input R S)) i es)

  -- 01, Search, passing
  abbrev pub yes_with : U128 → Option (List ℕ) → Bool
  yes_with x none = false
  yes_with x (some h) = bernoulli (take 16 (hash (last_input h))) (value_of x)

  -- 01, Verifier, the order
  unfoldable pub judged_with : Params → ℕ → ℕ → List Element → ℕ
  judged_with p R S es =
      first_number
      (line 20 (not (eqb (length es) p.proof_size))
      ∷ line 21 (counters_out p R S)
      ∷ line 22 (not (yes_with p.x (last_with p R S es)))
      ∷ [])

  unfoldable pub verdict_with : Params → ℕ → ℕ → Lent → ℕ
  verdict_with p R S lent = first_number (checked p ∷ list_check lent ∷ judged_with p R S (elements lent) ∷ [])
