-- Document 01, Lent and given back: the table of refusals, by its lines. A call's number is that of the first line that it meets.
use Rattle.std.specs.Prelude.{ℕ, Bool, cond, List, [], ◌∷◌, ◌==◌}

-- a line: its number where the call meets it, else 0
abbrev pub line : ℕ → Bool → ℕ
line k met = cond met k 0

-- the table's order: the first number that isn't 0, or 0 where all are
unfoldable pub first_number : List ℕ → ℕ
first_number [] = 0
first_number (k ∷ ks) = cond (k == 0) (first_number ks) k
