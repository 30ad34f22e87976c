-- Parts of a list whose borders are held within it.
use Rattle.std.specs.Prelude.{ℕ, zero, suc, ◌+◌, ◌-◌, ◌≤◌, ◌<◌, min, ◌≡◌, refl, Bool, true, false, List, [], ◌∷◌, ◌⊎◌, ltb, length, take, drop}
use Rattle.std.proofs.Common.{sym, ◌∙◌, ap, inl, inr, ⊎_elim, arith, ltb-true, ltb-false, length-take, drop_of_length-le, take_all}
use Rattle.std.proofs.Math.Seq.{take-nil}

lt_or_le : (a b : ℕ) → (a < b) ⊎ (b ≤ a)
lt_or_le a b = go (ltb a b) refl
  where
    go : (t : Bool) → ltb a b ≡ t → (a < b) ⊎ (b ≤ a)
    go true e = inl (ltb-true a b e)
    go false e = inr (ltb-false a b e)

-- the first n, of a list that may have fewer
pub first_within : (n k : ℕ) (l : List ℕ) → k ≡ min n (length l) → take k l ≡ take n l
first_within n k l e =
    ⊎_elim
    (λ o. let same : k ≡ n = omega arith in ap (λ (m : ℕ). take m l) same)
    (λ o. take_all k l (omega arith) ∙ sym (take_all n l (omega arith)))
    (lt_or_le n (length l))

-- all behind the first n, of a list that may have fewer
pub drop_within : (n k : ℕ) (l : List ℕ) → k ≡ min n (length l) → drop k l ≡ drop n l
drop_within n k l e =
    ⊎_elim
    (λ o. let same : k ≡ n = omega arith in ap (λ (m : ℕ). drop m l) same)
    (λ o. drop_of_length-le l {i = k} (omega arith) ∙ sym (drop_of_length-le l {i = n} (omega arith)))
    (lt_or_le n (length l))

-- what lies between two places, taken first by its end or first by its start
drop_take : (s k : ℕ) (l : List ℕ) → take k (drop s l) ≡ drop s (take (s + k) l)
drop_take zero k l = let same : k ≡ 0 + k = omega arith in ap (λ (m : ℕ). take m l) same
drop_take (suc s) k [] = take-nil k ∙ sym (ap (λ (m : List ℕ). drop (suc s) m) (take-nil (suc s + k)))
drop_take (suc s) k (x ∷ l) =
    let next : suc (s + k) ≡ suc s + k = omega arith in
    drop_take s k l ∙ ap (λ (m : ℕ). drop (suc s) (take m (x ∷ l))) next

-- the part from s to e, of a list that may end before either
pub part_within : (s e b t : ℕ) (l : List ℕ) → t ≡ min e (length l) → b ≡ min s t → take (t - b) (drop b l) ≡ drop s (take e l)
part_within s e b t l p q =
    let long : length (take e l) ≡ t = length-take e l ∙ sym p in
    drop_take b (t - b) l
    ∙ ap (λ (m : List ℕ). drop b m) (first_within e (b + (t - b)) l (omega arith))
    ∙ drop_within s b (take e l) (omega arith)
