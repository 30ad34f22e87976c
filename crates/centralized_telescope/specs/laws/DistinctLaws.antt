-- Laws of distinctness: the yes or no is yes exactly for a list that is distinct.
use Rattle.std.specs.Prelude.{◌≡◌, ℕ, zero, suc, ◌<◌, Bool, true, false, not, List, [], ◌∷◌, length, ◌==◌, ◌≢◌, refl}
use Rattle.std.proofs.Common.{arith, eq-eqb, eqb-true}
use Rattle.std.proofs.lemmas.Bool.{not-true}
use Rattle.centralized_telescope.specs.laws.TestLaws.{not_both, both, neither}
use Rattle.centralized_telescope.specs.core.Elements.{Element, element_at}
use Rattle.centralized_telescope.specs.later.Words.{mark_of, number_of, same_bytes}
use Rattle.centralized_telescope.specs.laws.ElementsLaws.{same_parts}
use Rattle.centralized_telescope.specs.laws.OrderingLaws.{index_known}
use Rattle.centralized_telescope.specs.core.Lists.{some_of}
use Rattle.centralized_telescope.specs.later.Distinct.{Distinct, same_element, none_equal, DistinctExactly}

-- ---- lists of numbers

pub bytes_same : (xs : List ℕ) → same_bytes xs xs ≡ true
bytes_same [] = refl
bytes_same (x ∷ xs) = rw (eq-eqb x x refl) (bytes_same xs)

pub same_bytes_lem : (xs ys : List ℕ) → same_bytes xs ys ≡ true → xs ≡ ys
same_bytes_lem [] [] e = refl
same_bytes_lem [] (y ∷ ys) e = absurd (not_both e refl)
same_bytes_lem (x ∷ xs) [] e = absurd (not_both e refl)
same_bytes_lem (x ∷ xs) (y ∷ ys) e =
    let h = both (x == y) e in
    let p = eqb-true x y h.0 in
    let q = same_bytes_lem xs ys h.1 in
    cc

pub differing : (xs ys : List ℕ) → (xs ≢ ys) → same_bytes xs ys ≡ false
differing xs ys n = go (same_bytes xs ys) refl
  where
    go : (t : Bool) → same_bytes xs ys ≡ t → t ≡ false
    go true e = absurd (n (same_bytes_lem xs ys e))
    go false e = refl

-- ---- elements

pub element_same : (e : Element) → same_element e e ≡ true
unfolding same_element
element_same e =
    rw (bytes_same e.bytes, eq-eqb (mark_of e.index) (mark_of e.index) refl, eq-eqb (number_of e.index) (number_of e.index) refl)

same_element_lem : (e f : Element) → same_element e f ≡ true → e ≡ f
unfolding same_element
same_element_lem e f s =
    let h = both (same_bytes e.bytes f.bytes) s in
    let k = both (mark_of e.index == mark_of f.index) h.1 in
    same_parts (same_bytes_lem e.bytes f.bytes h.0) (index_known e.index f.index (eqb-true _ _ k.0) (eqb-true _ _ k.1))

other_element : (e f : Element) → (e ≢ f) → same_element e f ≡ false
other_element e f n = go (same_element e f) refl
  where
    go : (t : Bool) → same_element e f ≡ t → t ≡ false
    go true s = absurd (n (same_element_lem e f s))
    go false s = refl

-- ---- lists

pub none_same : (e : Element) (es : List Element) → not (some_of (same_element e) es) ≡ true → (j : ℕ) → j < length es → e ≡ element_at es j
    → ⊥
unfolding some_of element_at
none_same e [] n j l q = omega arith
none_same e (x ∷ es) n zero l q = not_both (rw q (element_same x)) (neither (same_element e x) (not-true _ n)).0
none_same e (x ∷ es) n (suc j) l q = none_same e es (rw (neither (same_element e x) (not-true _ n)).1 refl) j (omega arith) q

pub same_none : (e : Element) (es : List Element) → ((j : ℕ) → j < length es → e ≢ element_at es j) → not (some_of (same_element e) es) ≡
    true
unfolding some_of element_at
same_none e [] f = refl
same_none e (x ∷ es) f = rw (other_element e x (f 0 (omega arith))) (same_none e es (λ j l. f (suc j) (omega arith)))

pub none_equal_lem : (es : List Element) → none_equal es ≡ true → Distinct es
unfolding none_equal element_at
none_equal_lem [] e i j l h q = omega arith
none_equal_lem (x ∷ es) e i zero l h q = omega arith
none_equal_lem (x ∷ es) e zero (suc j) l h q = none_same x es (both (not (some_of (same_element x) es)) e).0 j (omega arith) q
none_equal_lem (x ∷ es) e (suc i) (suc j) l h q = none_equal_lem es (both (not (some_of (same_element x) es)) e).1 i j (omega arith) (omega arith) q

pub equal_none : (es : List Element) → Distinct es → none_equal es ≡ true
unfolding none_equal element_at
equal_none [] D = refl
equal_none (x ∷ es) D =
    rw (same_none x es (λ j l q. D 0 (suc j) (omega arith) (omega arith) q))
    (equal_none es (λ i j l h q. D (suc i) (suc j) (omega arith) (omega arith) q))

pub distinct_exactly : DistinctExactly
distinct_exactly es = (none_equal_lem es, equal_none es)
