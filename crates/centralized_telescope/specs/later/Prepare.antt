-- Document 02, N9: the bytes that a run stands for, their hash, and what `prepare` and `commit` answer and leave.
use Rattle.std.specs.Prelude.{ℕ, cond, not, List, [], ◌∷◌, ◌++◌, length, replicate, ◌==◌, Result, Ok, Err}
use Rattle.sampling.specs.core.BigEndian.{bytes_of}
use Rattle.sampling.specs.core.FirstNumber.{line, first_number}
use Rattle.sampling.specs.core.Fips180.{sha256}
use Rattle.sampling.specs.core.Sample.{value_of}
use Rattle.centralized_telescope.specs.declared.params.Params.{Params}
use Rattle.centralized_telescope.specs.declared.errors.Refusal.{Refusal}
use Rattle.centralized_telescope.specs.core.Refusals.{refusal_number}
use Rattle.centralized_telescope.specs.core.Elements.{Element, elements, Lent}
use Rattle.centralized_telescope.specs.core.Prover.{Proved, refused, by_search, prover_refusal}
use Rattle.centralized_telescope.specs.later.Words.{same_bytes}
use Rattle.centralized_telescope.specs.later.ElementBytes.{elements_bytes}

-- ---- what is hashed

-- 02, N9, in this order and big-endian: five settings and the number of elements, 8 bytes each, X in 16
unfoldable pub run_head : Params → ℕ → List ℕ
run_head p count =
    bytes_of 8 p.set_size
    ++ (bytes_of 8 p.proof_size
    ++ (bytes_of 8 p.max_retries
    ++ (bytes_of 8 p.search_width
    ++ (bytes_of 8 p.dfs_bound ++ (bytes_of 8 count ++ bytes_of 16 (value_of p.x))))))

-- then every element of the list, as in a ticket
unfoldable pub run_bytes : Params → List Element → List ℕ
run_bytes p es = run_head p (length es) ++ elements_bytes es

-- 02, N9: a SHA-256 over them
unfoldable pub run_digest : Params → List Element → List ℕ
run_digest p es = sha256 (run_bytes p es)

-- ---- prepare: the prover's checks, then the digest; a refusal has zeros

unfoldable pub prepared : Params → Lent → ℕ → ℕ → ℕ × List ℕ
prepared p lent places_len table_len =
    let refusal : ℕ = prover_refusal p lent places_len table_len in
    cond (refusal == 0) (0, run_digest p (elements lent)) (refusal, replicate 32 0)

-- the number and the digest of an answer
abbrev pub prepared_by : Result (List ℕ) Refusal → ℕ × List ℕ
prepared_by (Ok digest) = (0, digest)
prepared_by (Err k) = (refusal_number k, replicate 32 0)

-- ---- commit: the prover's checks, then 46 for a digest that differs, then the search

unfoldable pub commit_refusal : Params → List ℕ → Lent → ℕ → ℕ → ℕ
commit_refusal p digest lent places_len table_len =
    first_number (prover_refusal p lent places_len table_len ∷ line 46 (not (same_bytes digest (run_digest p (elements lent)))) ∷ [])

unfoldable pub committed : Params → List ℕ → Lent → List ℕ → List ℕ → Proved
committed p digest lent places table =
    let refusal : ℕ = commit_refusal p digest lent (length places) (length table) in
    cond (refusal == 0) (by_search p (elements lent) places table) (refused refusal places table)
