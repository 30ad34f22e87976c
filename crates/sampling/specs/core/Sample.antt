-- The sampler of document 01, in its order: what the contracts of `sample` cite.
use Rattle.std.specs.Prelude.{ℕ, zero, suc, ◌+◌, ◌-◌, ◌*◌, ◌/◌, ◌%◌, ◌^◌, Bool, false, cond, ◌||◌, List, Option, Some, None, Result, Ok, Err, ◌==◌, nat_le, nat_lt}
use Rattle.sampling.specs.core.BigEndian.{big_endian}
use Rattle.sampling.specs.declared.sample.U128.{U128}
use Rattle.sampling.specs.declared.sample.EmptyRange.{EmptyRange}

-- 01, Sampler, powers of two: n is one of 2 ^ 0, .. 2 ^ (k - 1)
unfoldable pub is_power : ℕ → ℕ → Bool
is_power zero n = false
is_power (suc k) n = n == 2 ^ k || is_power k n

-- 01, Sampler, D: a quotient, rounded down
abbrev pub D : ℕ → ℕ
D n = (2 ^ 128 - 1) / n

-- 01, Sampler, any other n: no draw from D × n on, 1 and 0; else 0 and the remainder
unfoldable pub mod_not_power : ℕ → ℕ → ℕ × ℕ
mod_not_power i n = cond (nat_le (D n * n) i) (1, 0) (0, i % n)

-- 01, Sampler, `sample_uniform`, as a number and a value. 0: the value drawn; 1: no draw; 7: refused, n is 0
unfoldable pub uniform : List ℕ → ℕ → ℕ × ℕ
uniform h n = cond (n == 0) (7, 0) (cond (is_power 64 n) (0, big_endian 8 h % n) (mod_not_power (big_endian 16 h) n))

-- 01's number and value for a draw from some numbers: a value, or none
abbrev pub draw_by : Option ℕ → ℕ × ℕ
draw_by (Some v) = (0, v)
draw_by None = (1, 0)

-- 01's number and value for each answer of a uniform draw
abbrev pub uniform_by : Result (Option ℕ) EmptyRange → ℕ × ℕ
uniform_by (Ok d) = draw_by d
uniform_by (Err e) = (7, 0)

-- 01, Vec, Digest and u128 in this source: a u128 by its two halves
abbrev pub value_of : U128 → ℕ
value_of w = w.hi * 2 ^ 64 + w.lo

-- 01, Sampler, `sample_bernoulli`, by X (02, N4): yes exactly when i < X
unfoldable pub bernoulli : List ℕ → ℕ → Bool
bernoulli h X = nat_lt (big_endian 16 h) X
