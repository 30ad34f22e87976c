-- The bounded walk along a list, which the search's code follows: it counts what it meets, up to a bound, and stops at the first for
-- which a test says yes. Its laws (WalkLaws) tie it to K, the count and the find of Search.
use Rattle.std.specs.Prelude.{ℕ, ◌+◌, Bool, cond, List, [], ◌∷◌, nat_lt}
use Rattle.std.proofs.Math.Option.{Option, none, some}

-- how a walk ends: with a find, or without; and how many it counted
pub data Ended (A : Type 0) : Type 0 where
  found : ℕ → A → Ended A
  missing : ℕ → Ended A

-- along a list, after `count` were counted
unfoldable pub walk : {A : Type 0} → (A → Bool) → ℕ → ℕ → List A → Ended A
walk test bound count [] = missing count
walk test bound count (x ∷ xs) =
    cond (nat_lt count bound) (cond (test x) (found (count + 1) x) (walk test bound (count + 1) xs)) (missing count)

abbrev pub counted : {A : Type 0} → Ended A → ℕ
counted (found count x) = count
counted (missing count) = count

abbrev pub find : {A : Type 0} → Ended A → Option A
find (found count x) = some x
find (missing count) = none
