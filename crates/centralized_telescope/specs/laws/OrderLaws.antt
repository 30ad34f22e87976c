-- Laws of the search's order.
use Rattle.std.specs.Prelude.{◌≡◌, ℕ, ◌<◌, List, [], ◌∷◌, ◌++◌, refl}
use Rattle.std.proofs.Common.{◌∙◌, subst, inl, inr, ⊎_elim, append_assoc, append-nil, arith}
use Rattle.centralized_telescope.specs.core.Chains.{Chain, PlacesBefore, Before}

-- ---- extensions

before_append : (ps xs ys : List ℕ) → PlacesBefore xs ys → PlacesBefore (ps ++ xs) (ps ++ ys)
unfolding PlacesBefore
before_append [] xs ys b = b
before_append (e ∷ ps) xs ys b = inr (refl, before_append ps xs ys b)

-- an extension comes before one by a larger place
pub forked : (ps : List ℕ) (x y : ℕ) (xs ys a b : List ℕ) → x < y → a ≡ ps ++ (x ∷ []) ++ xs → b ≡ ps ++ (y ∷ []) ++ ys → PlacesBefore a b
unfolding PlacesBefore
forked ps x y xs ys a b l e f =
    rw (e, f, append_assoc ps (x ∷ []) xs, append_assoc ps (y ∷ []) ys) (before_append ps (x ∷ xs) (y ∷ ys) (inl l))

-- a chain comes before its extensions
pub longer : (ps : List ℕ) (e : ℕ) (es b : List ℕ) → b ≡ ps ++ (e ∷ []) ++ es → PlacesBefore ps b
unfolding PlacesBefore
longer ps e es b f =
    rw (f, append_assoc ps (e ∷ []) es)
    (subst (λ (z : List ℕ). PlacesBefore z (ps ++ (e ∷ es))) (append-nil ps) (before_append ps [] (e ∷ es) tt))

-- ---- it is an order: of two chains at most one comes before the other

places_transitive : (xs ys zs : List ℕ) → PlacesBefore xs ys → PlacesBefore ys zs → PlacesBefore xs zs
unfolding PlacesBefore
places_transitive xs ys [] a b = b
places_transitive xs [] (z ∷ zs) a b = absurd a
places_transitive [] (y ∷ ys) (z ∷ zs) a b = tt
places_transitive (x ∷ xs) (y ∷ ys) (z ∷ zs) a b =
    ⊎_elim
    (λ l. ⊎_elim (λ k. inl (omega arith)) (λ k. inl (omega (arith, k.0))) b)
    (λ l. ⊎_elim (λ k. inl (omega (arith, l.0))) (λ k. inr (l.0 ∙ k.0, places_transitive xs ys zs l.1 k.1)) b)
    a

places_irreflexive : (xs : List ℕ) → PlacesBefore xs xs → ⊥
unfolding PlacesBefore
places_irreflexive [] b = b
places_irreflexive (x ∷ xs) b = ⊎_elim (λ l. omega arith) (λ r. places_irreflexive xs r.1) b

pub before_transitive : (a b c : Chain) → Before a b → Before b c → Before a c
before_transitive a b c p q =
    ⊎_elim
    (λ l. ⊎_elim (λ k. inl (omega arith)) (λ k. inl (omega (arith, k.0))) q)
    (λ l. ⊎_elim (λ k. inl (omega (arith, l.0)))
    (λ k. inr (l.0 ∙ k.0, places_transitive a.places b.places c.places l.1 k.1)) q)
    p

pub before_irreflexive : (c : Chain) → Before c c → ⊥
before_irreflexive c b = ⊎_elim (λ l. omega arith) (λ r. places_irreflexive c.places r.1) b

pub before_asymmetric : (a b : Chain) → Before a b → Before b a → ⊥
before_asymmetric a b p q = before_irreflexive a (before_transitive a b a p q)
