-- Laws of lists and tests that the kit doesn't have and that the crate above cites too.
use Rattle.std.specs.Prelude.{◌≡◌, ℕ, ◌+◌, ◌-◌, ◌<◌, ◌≤◌, Bool, true, false, List, [], ◌∷◌, ◌++◌, length, take, drop, nat_lt, slice_set, refl}
use Rattle.std.proofs.Common.{sym, append-nil, add-one, arith, ltb-true, ltb-false, lt-ltb, le-ltb, length-drop, drop_of_length-le, take_all, take-suc-set}

-- two tests have one outcome where each outcome of the first gives the second's
pub same_test : (a b c d : ℕ) → (a < b → c < d) → (b ≤ a → d ≤ c) → nat_lt a b ≡ nat_lt c d
same_test a b c d under over = go (nat_lt a b) refl
  where
    go : (t : Bool) → nat_lt a b ≡ t → t ≡ nat_lt c d
    go true h = sym (lt-ltb c d (under (ltb-true a b h)))
    go false h = sym (le-ltb c d (over (ltb-false a b h)))

-- a copy over all that was there
pub copied : (s d : List ℕ) → length s ≡ length d → take (length s) s ++ drop (length s) d ≡ s
copied s d e = rw (take_all (length s) s (omega arith), drop_of_length-le d {i = length s} (omega arith), append-nil s)

-- all that is left behind a place
pub all_behind : (s : List ℕ) (n : ℕ) → take (length s - n) (drop n s) ≡ drop n s
all_behind s n = take_all (length s - n) (drop n s) (omega (arith, length-drop n s))

-- one more of the numbers that a list is filled with
pub filled_more : (l xs : List ℕ) (n x : ℕ) → n < length l → take n l ≡ xs → take (n + 1) (slice_set l n x) ≡ xs ++ (x ∷ [])
filled_more l xs n x h e = rw (add-one, take-suc-set l n x h, e)
