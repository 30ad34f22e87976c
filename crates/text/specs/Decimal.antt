-- What a text of decimal digits writes.
use Rattle.std.specs.Prelude.{ℕ, ◌+◌, ◌-◌, ◌*◌, ◌^◌, Bool, true, false, cond, ◌&&◌, List, [], ◌∷◌, leb, ltb}

-- whether a byte is `0` to `9`
abbrev pub is_digit : ℕ → Bool
is_digit c = leb 48 c && leb c 57

-- the number that a digit makes of v, which stands before it
abbrev pub with_digit : ℕ → ℕ → ℕ
with_digit v c = 10 * v + (c - 48)

-- the number that digits write after others that write v
unfoldable pub value_after : ℕ → List ℕ → ℕ
value_after v [] = v
value_after v (c ∷ cs) = value_after (with_digit v c) cs

unfoldable pub all_digits : List ℕ → Bool
all_digits [] = true
all_digits (c ∷ cs) = is_digit c && all_digits cs

-- whether what digits write after others that write v is a u64
unfoldable pub known_after : ℕ → List ℕ → Bool
unfolding all_digits value_after
known_after v cs = all_digits cs && ltb (value_after v cs) (2 ^ 64)

-- whether a text writes a u64: digits, one at least
unfoldable pub is_decimal : List ℕ → Bool
unfolding known_after
is_decimal [] = false
is_decimal (c ∷ cs) = known_after 0 (c ∷ cs)

-- the number, or 0
unfoldable pub decimal_value : List ℕ → ℕ
unfolding is_decimal value_after
decimal_value cs = cond (is_decimal cs) (value_after 0 cs) 0
