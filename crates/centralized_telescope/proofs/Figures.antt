-- The small case's figures as the code has them, its constants by their bit patterns.
use Rattle.std.proofs.Common.{◌≡◌, ℕ, pos, refl, ap, ◌∙◌}
use lib.Ieee.{Float, binary64, of_bits, of_int, round}
use Rattle.sampling.specs.later.Threshold.{xOf}
use Rattle.sampling.specs.declared.sample.U128.{U128}
use Rattle.centralized_telescope.specs.declared.params.SmallSettings.{SmallSettings}
use Rattle.centralized_telescope.specs.later.SmallCase.{◌⊕◌, ◌⊗◌, ◌⊘◌, as_double, L, floor, ceil, before_ceil, search_width, probability}
use Rattle.centralized_telescope.specs.later.SmallCase.{before_floor, dfs_bound, small_settings}

-- ---- the constants, a cast, and what is made of them

abbrev code : ℕ → Float
code b = of_bits binary64 b

abbrev one : Float
one = code 0x3ff0_0000_0000_0000

abbrev ln12 : Float
ln12 = code 4612777931131035261

abbrev double : ℕ → Float
double n = of_int binary64 (pos n)

abbrev code_before_ceil : ℕ → Float
code_before_ceil u = (code 0x4040_0000_0000_0000 ⊗ ln12) ⊗ double u

abbrev code_probability : ℕ → Float
code_probability d = (code 0x4000_0000_0000_0000 ⊗ ln12) ⊗ (one ⊘ double d)

abbrev code_before_floor : ℕ → ℕ → Float
code_before_floor u d = ((code 0x4020_0000_0000_0000 ⊗ (one ⊘ ln12)) ⊗ (double u ⊕ one)) ⊗ double d

-- ---- they are the definitions': each constant's pattern is that of the whole number's double, and of L

pub before_ceil_is : (u : ℕ) → code_before_ceil u ≡ before_ceil u
unfolding of_bits of_int round as_double L before_ceil
before_ceil_is u = refl

probability_is : (d : ℕ) → code_probability d ≡ probability d
unfolding of_bits of_int round as_double L probability
probability_is d = refl

pub before_floor_is : (u d : ℕ) → code_before_floor u d ≡ before_floor u d
unfolding of_bits of_int round as_double L before_floor
before_floor_is u d = refl

-- ---- the settings

module _ (u d : ℕ) where
  pub width_is : d ≡ ceil (code_before_ceil u) → d ≡ search_width u
  unfolding search_width
  width_is e = e ∙ ap ceil (before_ceil_is u)

  pub settings_are : (c : Float) (r b : ℕ) (x : U128) → r ≡ ceil c → d ≡ search_width u → b ≡ floor (code_before_floor u d)
      → x ≡ xOf (code_probability d)
      → ◌≡◌ {A = SmallSettings}
      (record { proof_size = u; max_retries = r; search_width = d; dfs_bound = b; x = x })
      (small_settings u c)
  unfolding small_settings dfs_bound
  settings_are c r b x R D B X = rw (B, before_floor_is u d, X, probability_is d, R, D)
