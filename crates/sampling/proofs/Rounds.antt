-- Round after round over the schedule.
use Rattle.std.proofs.Common.{◌≡◌, ℕ, ◌+◌, ◌<◌, ◌≤◌, List, get_or, set, refl, ◌∙◌, add-one, arith, length-set, get_or-set_other, get_or-set_same}
use native.Mathlib.Decide.{dec_lt}
use Rattle.sampling.specs.core.Fips180.{K256, W, one_round, rounds}
use Rattle.sampling.specs.inner.HashInner.{AfterRounds, RoundsFrom}
use Rattle.sampling.specs.declared.sha256.State.{State}

-- before the first round
pub no_round : (h : State) (M : List ℕ) → AfterRounds h M 0 h K256
unfolding rounds
no_round h M = record { variables = refl; size = refl; word = λ n l. absurd (omega arith); constant = λ n l g. refl }

-- a round more: its word takes the place of its constant
pub one_more : (M w : List ℕ) (t : ℕ) {v r : State} {x : ℕ} → t < 64 → x ≡ get_or (W M 64) t 0 → r ≡ one_round v (get_or w t 0) x
    → RoundsFrom M t (t + 1) v w r (set w t x)
unfolding rounds
one_more M w t {v} {r} {x} l e p h i = record { variables = variables; size = simp length-set i.size; word = word; constant = constant }
  where
    variables : r ≡ rounds h (W M 64) (t + 1)
    variables = rw (add-one t) (p ∙ rw (i.variables, i.constant t (omega arith) l, e))

    word : (n : ℕ) → n < t + 1 → get_or (set w t x) n 0 ≡ get_or (W M 64) n 0
    word n g = go (dec_lt n t)
      where
        go : Dec (n < t) → get_or (set w t x) n 0 ≡ get_or (W M 64) n 0
        go (yes q) = get_or-set_other w t n x 0 (omega arith) ∙ i.word n q
        go (no q) = let z : n ≡ t = omega arith in rw (z, get_or-set_same w t x 0 (omega (arith, i.size)), e)

    constant : (n : ℕ) → t + 1 ≤ n → n < 64 → get_or (set w t x) n 0 ≡ get_or K256 n 0
    constant n g k = get_or-set_other w t n x 0 (omega arith) ∙ i.constant n (omega arith) k
