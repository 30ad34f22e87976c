-- Document 01, Cases to prove: a to l as one table over the definitions that the contracts cite.
use Rattle.std.specs.Prelude.{◌≡◌, ℕ, Bool, true, false, List, [], ◌∷◌, ◌++◌, length, replicate, ℤ, pos, negsuc, Float}
use Rattle.std.specs.Float.{fin}
use Rattle.sampling.specs.core.Sample.{uniform, value_of, bernoulli}
use Rattle.sampling.specs.later.Threshold.{converted, xOf}
use Rattle.centralized_telescope.specs.core.Elements.{Lent, lent_of}
use Rattle.centralized_telescope.specs.declared.params.Params.{Params}
use Rattle.centralized_telescope.specs.later.VerdictExactly.{Limits}
use Rattle.centralized_telescope.specs.later.SmallCase.{completeness_out, small_case}
use Rattle.centralized_telescope.specs.core.Lists.{Each}
use Rattle.centralized_telescope.specs.core.Prover.{proved}
use Rattle.centralized_telescope.specs.core.Demand3.{Served}

-- ---- bytes and doubles

-- 15 bytes b, then the byte l
abbrev pub ending_with : ℕ → ℕ → List ℕ
ending_with b l = replicate 15 b ++ (l ∷ [])

-- the byte f, then 15 bytes b
abbrev pub starting_with : ℕ → ℕ → List ℕ
starting_with f b = f ∷ replicate 15 b

-- 2 ^ e
abbrev pub two_to : ℤ → Float
two_to e = fin false 1 e

-- ---- what a row says

pub data Case : Type 0 where
  -- 16 bytes and n; the number and the value drawn
  draws : List ℕ → ℕ → ℕ → ℕ → Case
  -- n; the number and the value, whatever the bytes
  always_draws : ℕ → ℕ → ℕ → Case
  -- 16 bytes and q, of which X is made; yes or no
  tells : List ℕ → Float → Bool → Case
  -- q; the X of it
  converts : Float → ℕ → Case
  -- u; search_width and dfs_bound, whatever the completeness
  sets : ℕ → ℕ → ℕ → Case
  -- how many elements; proof_size, search_width, max_retries and dfs_bound; the number and the count
  searches : ℕ → ℕ → ℕ → ℕ → ℕ → ℕ → ℕ → Case
  -- how many elements, and dfs_bound; the number and the count with max_retries 0, whatever proof_size and search_width
  tries_none : ℕ → ℕ → ℕ → ℕ → Case

-- q of i to l
abbrev pub zero_chance : Float
zero_chance = fin false 0 (pos 0)

-- settings of i to l: X is that of their q, and set_size 1
abbrev pub case_settings : ℕ → ℕ → ℕ → ℕ → Params
case_settings size width retries bound =
    record { set_size = 1; proof_size = size; max_retries = retries; search_width = width; dfs_bound = bound; x = xOf zero_chance }

-- a run under such settings, whatever the elements, being so many, and the workspace
abbrev pub RunGives : Params → ℕ → ℕ → ℕ → Type 0
RunGives p n number count =
    (lent : Lent) (places table : List ℕ) → Served p lent places table → length lent.ends ≡ n
    → ((proved p lent places table).number ≡ number) × ((proved p lent places table).count ≡ count)

unfoldable pub Holds : Case → Type 0
Holds (draws h n number value) = uniform h n ≡ (number, value)
Holds (always_draws n number value) = (h : List ℕ) → uniform h n ≡ (number, value)
Holds (tells h q answer) = ((converted q).0 ≡ 0) × (bernoulli h (value_of (xOf q)) ≡ answer)
Holds (converts q X) = converted q ≡ (0, X)
Holds (sets u d bound) =
    (c : Float) → completeness_out c ≡ false
    → ((small_case u c).0 ≡ 0) × ((small_case u c).1.search_width ≡ d) × ((small_case u c).1.dfs_bound ≡ bound)
Holds (searches n size width retries bound number count) = RunGives (case_settings size width retries bound) n number count
Holds (tries_none n bound number count) = (size width : ℕ) → RunGives (case_settings size width 0 bound) n number count

-- ---- the table

unfoldable pub cases : List Case
cases =
    -- a, b
    draws (replicate 7 0 ++ (0x0d ∷ replicate 8 0xff)) 8 0 5
    ∷ always_draws 1 0 0
    -- c
    ∷ draws (ending_with 0xff 0xf9) 10 0 9
    ∷ draws (ending_with 0xff 0xfa) 10 1 0
    -- d
    ∷ draws (ending_with 0xff 0xfe) 3 0 2
    ∷ draws (ending_with 0xff 0xff) 3 1 0
    -- e
    ∷ tells (ending_with 0xff 0xff) (two_to (pos 0)) false
    ∷ tells (ending_with 0xff 0xfe) (two_to (pos 0)) true
    -- f
    ∷ tells (starting_with 0x7f 0xff) (two_to (negsuc 0)) true
    ∷ tells (starting_with 0x80 0) (two_to (negsuc 0)) false
    -- g
    ∷ tells (ending_with 0 0) (two_to (negsuc 127)) true
    ∷ tells (ending_with 0 0) (two_to (negsuc 128)) false
    -- h
    ∷ sets 1 80 515
    ∷ sets 200 15904 10291586
    -- i to l, their q
    ∷ converts zero_chance 0
    -- i
    ∷ searches 1 2 1 3 100 12 9
    ∷ searches 1 2 1 3 9 11 9
    -- j
    ∷ searches 2 2 1 1 100 12 7
    ∷ searches 2 2 1 1 4 11 4
    -- k
    ∷ searches 1 0 2 1 5 12 2
    ∷ searches 1 0 2 1 2 11 2
    -- l
    ∷ tries_none 1 0 11 0
    ∷ tries_none 1 1 12 0
    ∷ []

abbrev pub AllCases : Type 0
AllCases = Each Holds cases

-- ---- that cases i to l speak of something: such settings, if within the limits, are served with one element and with two

abbrev pub CasesServed : Type 0
CasesServed =
    (size width retries bound : ℕ) → Limits (case_settings size width retries bound)
    → Served (case_settings size width retries bound) (lent_of [] (0 ∷ []) (0 ∷ []) (0 ∷ [])) (replicate size 0) (replicate 4 0)
    × Served (case_settings size width retries bound) (lent_of [] (0 ∷ 0 ∷ []) (0 ∷ 0 ∷ []) (0 ∷ 0 ∷ [])) (replicate size 0) (replicate 4 0)
