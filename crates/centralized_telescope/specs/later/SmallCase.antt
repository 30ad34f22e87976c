-- Document 01, Small-case settings: the settings of the small case, worked out in doubles.
use Rattle.std.specs.Prelude.{ℕ, ◌+◌, ◌*◌, ◌/◌, ◌%◌, ◌^◌, Bool, false, cond, [], ◌∷◌, pos, ◌==◌, Float, Result, Ok, Err}
use Rattle.std.specs.Float.{nan, inf, fin, binary64}
use Rattle.std.specs.Float.Ieee.{up, down, round, of_int, add, mul, div}
use Rattle.sampling.specs.core.FirstNumber.{line, first_number}
use Rattle.sampling.specs.later.Threshold.{outside, halves_of, xOf}
use Rattle.centralized_telescope.specs.core.Refusals.{refusal_number}
use Rattle.centralized_telescope.specs.declared.errors.Refusal.{Refusal}
use Rattle.centralized_telescope.specs.core.Params.{not_one_to, max_proof_size}
use Rattle.centralized_telescope.specs.declared.params.SmallSettings.{SmallSettings}

-- ---- doubles. Each result is rounded: IEEE 754-2019, 5.4.1, to the nearest, ties to even

infixl 20 ◌⊕◌
infixl 30 ◌⊗◌
infixl 30 ◌⊘◌
abbrev pub ◌⊕◌ : Float → Float → Float
◌⊕◌ x y = add binary64 x y

abbrev pub ◌⊗◌ : Float → Float → Float
◌⊗◌ x y = mul binary64 x y

abbrev pub ◌⊘◌ : Float → Float → Float
◌⊘◌ x y = div binary64 x y

-- the double of a whole number
unfoldable pub as_double : ℕ → Float
as_double n = of_int binary64 (pos n)

-- 01, Small-case settings, L: its decimals of ln 12, rounded to a double
unfoldable pub L : Float
L = round binary64 false 248490664978800031023 (10 ^ 20)

-- The greatest whole number that isn't above x, and the least that isn't below it, for a finite x that isn't below 0:
-- x is m * 2 ^ e, with 2 ^ e as up e / down e
unfoldable pub floor : Float → ℕ
floor nan = 0
floor (inf s) = 0
floor (fin s m e) = m * up e / down e

unfoldable pub ceil : Float → ℕ
ceil nan = 0
ceil (inf s) = 0
ceil (fin s m e) = cond (m * up e % down e == 0) (m * up e / down e) (m * up e / down e + 1)

-- ---- the small case

-- 01, Small-case settings, d: what is rounded up, and search_width, the result
unfoldable pub before_ceil : ℕ → Float
before_ceil u = (as_double 32 ⊗ L) ⊗ as_double u

unfoldable pub search_width : ℕ → ℕ
search_width u = ceil (before_ceil u)

-- 01, Small-case settings, q: by L and d
unfoldable pub probability : ℕ → Float
probability d = (as_double 2 ⊗ L) ⊗ (as_double 1 ⊘ as_double d)

-- 01, Small-case settings, dfs_bound: what is rounded down, and the result
unfoldable pub before_floor : ℕ → ℕ → Float
before_floor u d = ((as_double 8 ⊗ (as_double 1 ⊘ L)) ⊗ (as_double u ⊕ as_double 1)) ⊗ as_double d

unfoldable pub dfs_bound : ℕ → ℕ → ℕ
dfs_bound u d = floor (before_floor u d)

-- 01, Small-case settings, the answer: u itself, c rounded up, and those above, with X of q (02, N4); set_size is left to the caller
unfoldable pub small_settings : ℕ → Float → SmallSettings
small_settings u c = record {
  proof_size = u;
  max_retries = ceil c;
  search_width = search_width u;
  dfs_bound = dfs_bound u (search_width u);
  x = xOf (probability (search_width u));
}

-- 01, Lent and given back, refusals: every setting is 0
abbrev pub no_settings : SmallSettings
no_settings = record { proof_size = 0; max_retries = 0; search_width = 0; dfs_bound = 0; x = halves_of 0 }

-- 01, Lent and given back, refusal 30: u is out of range
abbrev pub proof_size_out : ℕ → Bool
proof_size_out u = not_one_to max_proof_size u

-- 01, Lent and given back, refusal 31: c is no number from 0 to 65,535
abbrev pub max_completeness : ℕ
max_completeness = 65535

abbrev pub completeness_out : Float → Bool
completeness_out c = outside max_completeness c

-- the first refusal in the table's order, or 0
unfoldable pub small_case_refusal : ℕ → Float → ℕ
small_case_refusal u c = first_number (line 30 (proof_size_out u) ∷ line 31 (completeness_out c) ∷ [])

-- 01, Small-case settings: 0 and the settings, or the number of the first refusal
unfoldable pub small_case : ℕ → Float → ℕ × SmallSettings
small_case u c = cond (small_case_refusal u c == 0) (0, small_settings u c) (small_case_refusal u c, no_settings)

-- 01's number and the settings for each answer of the small case
abbrev pub small_case_by : Result SmallSettings Refusal → ℕ × SmallSettings
small_case_by (Ok s) = (0, s)
small_case_by (Err k) = (refusal_number k, no_settings)
