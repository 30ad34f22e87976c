-- What hexadecimal digits are worth, one and sixteen.
use Rattle.std.specs.Prelude.{ℕ, ◌+◌, ◌-◌, ◌*◌, Bool, true, cond, ◌&&◌, List, [], ◌∷◌, leb, eqb, length}

-- the value of `0` to `9` and `a` to `f`, and 16 of any other byte
unfoldable pub digit_value : ℕ → ℕ
digit_value c = cond (leb 48 c && leb c 57) (c - 48) (cond (leb 97 c && leb c 102) (c - 87) 16)

-- the number that digits write after others that write v
unfoldable pub hex_after : ℕ → List ℕ → ℕ
hex_after v [] = v
hex_after v (c ∷ cs) = hex_after (16 * v + digit_value c) cs

unfoldable pub all_hex : List ℕ → Bool
all_hex [] = true
all_hex (c ∷ cs) = leb (digit_value c) 15 && all_hex cs

-- whether a text is 16 digits
unfoldable pub is_sixteen : List ℕ → Bool
unfolding all_hex
is_sixteen cs = eqb (length cs) 16 && all_hex cs

-- the number that they write, or 0
unfoldable pub sixteen_value : List ℕ → ℕ
unfolding is_sixteen hex_after
sixteen_value cs = cond (is_sixteen cs) (hex_after 0 cs) 0
