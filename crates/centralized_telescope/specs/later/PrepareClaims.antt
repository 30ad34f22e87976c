-- Document 02, N9, what holds of prepare and commit together: three claims over the definitions that their contracts equate their results
-- with.
use Rattle.std.specs.Prelude.{◌≡◌, ℕ, ◌^◌, ◌<◌, ◌≤◌, ◌⊎◌, List, length, ◌≢◌}
use Rattle.sampling.specs.core.Fips180.{sha256}
use Rattle.sampling.specs.core.Hash.{max_hashed}
use Rattle.centralized_telescope.specs.declared.params.Params.{Params}
use Rattle.centralized_telescope.specs.core.Params.{checked}
use Rattle.centralized_telescope.specs.core.Lists.{Each}
use Rattle.centralized_telescope.specs.core.Elements.{elements, Lent}
use Rattle.centralized_telescope.specs.core.Prover.{refused, prover_refusal, proved}
use Rattle.centralized_telescope.specs.core.Demand3.{Accepted}
use Rattle.centralized_telescope.specs.later.Prepare.{run_bytes, prepared, committed}

-- ---- 02, N9: if nothing covered changed, the pair ends as the prover does on what commit is handed. The list may be laid out otherwise

abbrev pub PairProves : Type 0
PairProves =
    (p : Params) (lent lent' : Lent) (places_len table_len : ℕ) (places table : List ℕ)
    → (prepared p lent places_len table_len).0 ≡ 0
    → elements lent' ≡ elements lent
    → committed p (prepared p lent places_len table_len).1 lent' places table ≡ proved p lent' places table

-- ---- 02, N9: the bytes hashed determine settings and elements

-- lawful settings with X's words of 64 bits, and an accepted list with indexes of 64 bits
pub record IsRun (p : Params) (lent : Lent) : Type 0 where
  pub settings : checked p ≡ 0
  pub high : p.x.hi < 2 ^ 64
  pub low : p.x.lo < 2 ^ 64
  pub list : Accepted lent
  pub index_numbers : Each (λ (v : ℕ). v < 2 ^ 64) lent.indexes

abbrev pub SameRun : Params → Lent → Params → Lent → Type 0
SameRun p lent p' lent' = (p ≡ p') × (elements lent ≡ elements lent')

abbrev pub RunsTold : Type 0
RunsTold =
    -- they are few enough for the hash
    ((p : Params) (lent : Lent) → Accepted lent → length (run_bytes p (elements lent)) ≤ max_hashed)
    × ((p : Params) (lent : Lent) (p' : Params) (lent' : Lent) → IsRun p lent → IsRun p' lent'
    → run_bytes p (elements lent) ≡ run_bytes p' (elements lent') → SameRun p lent p' lent')

-- ---- 02, N9: so a covered change that passes the checks gives 46, unless two hashes collide

-- two byte strings with one SHA-256
abbrev pub Collide : List ℕ → List ℕ → Type 0
Collide m m' = (m ≢ m') × (sha256 m ≡ sha256 m')

abbrev pub ChangeNoticed : Type 0
ChangeNoticed =
    (p : Params) (lent : Lent) (places_len table_len : ℕ) (p' : Params) (lent' : Lent) (places table : List ℕ) → IsRun p lent → IsRun p' lent'
    → (prepared p lent places_len table_len).0 ≡ 0
    → prover_refusal p' lent' (length places) (length table) ≡ 0
    → (SameRun p lent p' lent' → ⊥)
    → (committed p' (prepared p lent places_len table_len).1 lent' places table ≡ refused 46 places table)
    ⊎ Collide (run_bytes p (elements lent)) (run_bytes p' (elements lent'))
