-- Document 01, Sampler, and 02, N4: the converter, which makes the threshold X of a probability q, a double; and its export.
use Rattle.std.specs.Prelude.{ℕ, zero, suc, ◌-◌, ◌*◌, ◌/◌, ◌%◌, ◌^◌, min, Bool, false, cond, not, ◌||◌, List, [], ◌∷◌, length, ℤ, pos, Result, Ok, Err, ◌==◌, is_nan, Float}
use Rattle.std.specs.Float.{nan, inf, fin}
use Rattle.std.specs.Float.Ieee.{up, down, lt}
use Rattle.sampling.specs.core.Sample.{value_of}
use Rattle.sampling.specs.core.FirstNumber.{first_number, line}
use Rattle.sampling.specs.declared.sample.U128.{U128}
use Rattle.sampling.specs.declared.sample.NotProbability.{NotProbability}

-- x is a NaN, below 0 or above the whole number hi. Negative zero is not below 0
unfoldable pub outside : ℕ → Float → Bool
outside hi x = is_nan x || (lt x (fin false 0 (pos 0)) || lt (fin false hi (pos 0)) x)

-- 01, Lent and given back, refusal 3: q is no number from 0 to 1
abbrev pub outside_unit : Float → Bool
outside_unit q = outside 1 q

-- 01, Sampler: floor(q × 2^128), with no rounding before, for q = m * 2 ^ e, with 2 ^ e as up e / down e
abbrev pub floor_of : ℕ → ℤ → ℕ
floor_of m e = m * up e * 2 ^ 128 / down e

-- 01, Sampler, X: that floor, but at most 2^128 − 1. Where q is refused, X is not asked for
unfoldable pub threshold : Float → ℕ
threshold nan = 0
threshold (inf s) = 2 ^ 128 - 1
threshold (fin s m e) = min (floor_of m e) (2 ^ 128 - 1)

-- the converter (02, N4), as a number and X. 0: X; 3: refused
unfoldable pub converted : Float → ℕ × ℕ
converted q = cond (outside_unit q) (3, 0) (0, threshold q)

-- the two halves of a number of 128 bits
abbrev pub halves_of : ℕ → U128
halves_of X = record { hi = X / 2 ^ 64; lo = X % 2 ^ 64 }

-- X of q as the converter gives it, in two halves
abbrev pub xOf : Float → U128
xOf q = halves_of (converted q).1

-- 01's number and X for each answer of `threshold_of`
abbrev pub converted_by : Result U128 NotProbability → ℕ × ℕ
converted_by (Ok w) = (0, value_of w)
converted_by (Err e) = (3, 0)

-- ---- as C calls it

-- the exported converter (02, N4): where q has an X its halves fill the two numbers; with any other number they stay as they were lent
unfoldable pub with_halves : ℕ → ℕ → List ℕ → ℕ × List ℕ
with_halves zero X out = (0, (halves_of X).hi ∷ (halves_of X).lo ∷ [])
with_halves (suc k) X out = (suc k, out)

-- by the table's order: 8 for other than two numbers, then 3 for q
unfoldable pub exported_threshold : Float → List ℕ → ℕ × List ℕ
exported_threshold q out =
    let number : ℕ = first_number (line 8 (not (length out == 2)) ∷ (converted q).0 ∷ []) in
    with_halves number (converted q).1 out
