-- Where a list has a byte.
use Rattle.std.specs.Prelude.{ℕ, ◌+◌, cond, List, [], ◌∷◌, eqb}

-- the place of the first byte like b, or the list's length where it has none
unfoldable pub index_of : ℕ → List ℕ → ℕ
index_of b [] = 0
index_of b (c ∷ cs) = cond (eqb c b) 0 (index_of b cs + 1)
