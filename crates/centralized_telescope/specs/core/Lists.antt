-- Words about lists that the definitions share.
use Rattle.std.specs.Prelude.{ℕ, ◌+◌, Bool, false, cond, ◌||◌, List, [], ◌∷◌, ◌++◌, length, drop}
use mathlib.Core.List.{Memᴰ}
use Rattle.std.proofs.Math.Option.{Option, none, some}

-- each stands in the relation to all after it
unfoldable pub Ascending : {A : Type 0} → (A → A → Type 0) → List A → Type 0
Ascending R [] = Unit {0}
Ascending {A} R (x ∷ xs) = ((y : A) → Memᴰ y xs → R x y) × Ascending R xs

-- each is as said
unfoldable pub Each : {A : Type 0} → (A → Type 0) → List A → Type 0
Each P [] = Unit {0}
Each P (x ∷ xs) = P x × Each P xs

-- the test says yes of one of them
unfoldable pub some_of : {A : Type 0} → (A → Bool) → List A → Bool
some_of test [] = false
some_of test (x ∷ xs) = test x || some_of test xs

-- the first for which the test says yes
unfoldable pub first_of : {A : Type 0} → (A → Bool) → List A → Option A
first_of test [] = none
first_of test (x ∷ xs) = cond (test x) (some x) (first_of test xs)

-- how many there are up to and including the first for which the test says yes, or in all if it never does
unfoldable pub up_to_first : {A : Type 0} → (A → Bool) → List A → ℕ
up_to_first test [] = 0
up_to_first test (x ∷ xs) = cond (test x) 1 (1 + up_to_first test xs)

-- numbers written over the first ones of a lent buffer, the rest of it untouched
abbrev pub over : List ℕ → List ℕ → List ℕ
over xs buffer = xs ++ drop (length xs) buffer
