-- Document 02, N11: one bin table for two products. The try that a party asks for is defined by itself, with nothing of the other party.
use Rattle.std.specs.Prelude.{ℕ, ◌+◌, ◌*◌, Bool, cond, not, List, [], ◌∷◌, length, take, ◌==◌}
use Rattle.sampling.specs.core.FirstNumber.{line, first_number}
use Rattle.centralized_telescope.specs.declared.params.Params.{Params}
use Rattle.centralized_telescope.specs.declared.products.TwoAnswers.{TwoAnswers}
use Rattle.centralized_telescope.specs.core.Elements.{Element, elements, Lent}
use Rattle.centralized_telescope.specs.core.Bins.{table_of}
use Rattle.centralized_telescope.specs.core.Chains.{try_of}
use Rattle.centralized_telescope.specs.core.Search.{bin_list, try_count, try_finds}
use Rattle.centralized_telescope.specs.core.Prover.{Proved, refused, answered, proved_by, prover_refusal}
use Rattle.centralized_telescope.specs.later.Words.{same_bytes}

-- the table's first 3 × n + 1 numbers are 01's for these elements, n bins and the retry counter R
unfoldable pub table_right : ℕ → ℕ → List Element → List ℕ → Bool
table_right n R es table = same_bytes (take (3 * n + 1) table) (table_of n (bin_list n R (take (2 * n) es)))

-- the answer of the try with the retry counter R, as of a search that makes this one try; the table is only read
abbrev pub by_try : Params → List Element → ℕ → List ℕ → List ℕ → Proved
by_try p es R places table = answered p (try_finds (try_of p es R)) R (try_count (try_of p es R)) places table

-- ---- what both parties are served from: a list, and a bin table with its retry counter
module _ (lent : Lent) (table_retry : ℕ) (table : List ℕ) where
  -- 02, N11, a party's refusals: the prover's; 47 for another retry counter than the table's; 48 for another table
  unfoldable pub party_refusal : Params → ℕ → ℕ → ℕ
  party_refusal p R places_len =
      first_number
      (prover_refusal p lent places_len (length table)
      ∷ line 47 (not (R == table_retry))
      ∷ line 48 (not (table_right p.set_size table_retry (elements lent) table))
      ∷ [])

  -- 02, N11: the try run alone
  unfoldable pub tried_alone : Params → ℕ → List ℕ → Proved
  tried_alone p R places =
      let refusal : ℕ = party_refusal p R (length places) in
      cond (refusal == 0) (by_try p (elements lent) table_retry places table) (refused refusal places table)

  -- one call serves both
  abbrev pub both_tried : Params → ℕ → List ℕ → Params → ℕ → List ℕ → Proved × Proved
  both_tried p R places p' R' places' = (tried_alone p R places, tried_alone p' R' places')

-- 01's number and values for both answers, with each party's places as they are left, and the table
abbrev pub both_by : TwoAnswers → List ℕ → List ℕ → List ℕ → Proved × Proved
both_by r places places' table = (proved_by r.first places table, proved_by r.second places' table)
