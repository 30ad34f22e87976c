-- Laws of the words of Lists, and of lists.
use Rattle.std.specs.Prelude.{◌≡◌, ℕ, zero, suc, ◌+◌, ◌-◌, ◌<◌, ◌≤◌, Bool, true, false, cond, ◌||◌, T, ◌⊎◌, List, [], ◌∷◌, ◌++◌, map, length, take, drop, ◌≢◌, slice_index, slice_index_or, slice_set}
use Rattle.std.proofs.Math.Path.{refl, sym, ap, subst}
use Rattle.std.proofs.Common.{◌∙◌, suc-add, add-one, length-append, take-append-drop, take_at, take-take, take-suc, drop-drop, drop-set-lt}
use Rattle.std.proofs.Math.Logic.{inl, inr, ⊎_elim}
use Rattle.std.specs.List.{list_any}
use mathlib.Core.List.Memᴰ
use mathlib.Core.List.{append_assoc, map-append, Memᴰ}
use Rattle.std.proofs.Math.Option.{none, some}
use native.Mathlib.Omega.{arith}
use Rattle.std.proofs.Math.Seq.{slice, take-set-lt, drop-cons}
use Rattle.std.proofs.lemmas.List.{take-set-le, set_at}
use Rattle.centralized_telescope.specs.laws.TestLaws.{neither, lt_or_le}
use Rattle.centralized_telescope.specs.core.Lists.{Ascending, Each, some_of, first_of, up_to_first, over}

-- a list in order followed by another, each of whose elements comes after all of the first
pub pairwise_append : {A : Type 0} (R : A → A → Type 0) (xs ys : List A) → Ascending R xs → Ascending R ys
    → ((x y : A) → Memᴰ x xs → Memᴰ y ys → R x y)
    → Ascending R (xs ++ ys)
unfolding Ascending
pairwise_append R [] ys p q r = q
pairwise_append R (x ∷ xs) ys p q r = (
  λ y m. ⊎_elim (λ l. p.0 y l) (λ l. r x y (Memᴰ.head refl) l) (Memᴰ.append_cases xs m),
  pairwise_append R xs ys p.1 q (λ a b m l. r a b (Memᴰ.tail m) l),
)

-- ---- maps

pub get_d_map : {A B : Type 0} (f : A → B) (xs : List A) (i : ℕ) (b : B) (a : A) → i < length xs → slice_index_or (map f xs) i b ≡ f (slice_index_or xs i a)
get_d_map f [] i b a l = absurd (omega arith)
get_d_map f (x ∷ xs) zero b a l = refl
get_d_map f (x ∷ xs) (suc i) b a l = get_d_map f xs i b a (omega arith)

pub map_more : {A B : Type 0} (f : A → B) (xs : List A) (i : ℕ) (a : A) → i < length xs
    → map f (take (i + 1) xs) ≡ map f (take i xs) ++ (f (slice_index_or xs i a) ∷ [])
map_more f xs i a h = rw (add-one, take-suc xs i a h) (map-append f (take i xs) (slice_index_or xs i a ∷ []))

-- ---- parts: a slice of a list from one place up to another, and what stands behind a place

pub part_behind : (front rest : List ℕ) (a b : ℕ) → slice (length front + a) (length front + b) (front ++ rest) ≡ slice a b rest
part_behind [] rest a b = let e : 0 + a ≡ a = omega arith in let f : 0 + b ≡ b = omega arith in rw (e, f)
part_behind (x ∷ front) rest a b = rw (suc-add (length front) a, suc-add (length front) b) (part_behind front rest a b)

pub at_place : (l : List ℕ) (k : ℕ) → k < length l → Memᴰ (slice_index l k) l
at_place [] k h = absurd (omega arith)
at_place (x ∷ l) zero h = Memᴰ.head refl
at_place (x ∷ l) (suc k) h = Memᴰ.tail (at_place l k (omega arith))

-- a part beside a store
pub part_set : (a t : ℕ) (l : List ℕ) (k v : ℕ) → (k < a) ⊎ (t ≤ k) → slice a t (slice_set l k v) ≡ slice a t l
part_set a t l k v (inr h) = ap (drop a) (take-set-le t l k v h)
part_set a t l k v (inl h) =
    ⊎_elim
    (λ j. ap (drop a) (take-set-lt t l k v j) ∙ drop-set-lt a (take t l) k v h)
    (λ j. ap (drop a) (take-set-le t l k v j))
    (lt_or_le k t)

pub take_part : (f t : ℕ) (l : List ℕ) → f ≤ t → take t l ≡ take f l ++ slice f t l
take_part f t l h = sym (take-append-drop f (take t l)) ∙ rw (take-take f t l h)

-- lists that agree behind a place agree behind a later one
pub agree_on : (a b : ℕ) (x y : List ℕ) → a ≤ b → drop a x ≡ drop a y → drop b x ≡ drop b y
agree_on a b x y l e =
    let q : a + (b - a) ≡ b = omega arith in rw q at (sym (drop-drop (b - a) a x) ∙ ap (drop (b - a)) e ∙ drop-drop (b - a) a y)

-- ---- numbers written over the first ones of a list

-- one number more behind k of them
pub store_behind : (xs buffer : List ℕ) (k v : ℕ) → length xs ≡ k → k < length buffer
    → slice_set (xs ++ drop k buffer) k v ≡ (xs ++ (v ∷ [])) ++ drop (k + 1) buffer
store_behind xs buffer k v e h =
    rw (drop-cons buffer k 0 h, set_at xs (slice_index buffer k) (drop (suc k) buffer) v k e, add-one, append_assoc xs)

pub over_set : (k v : ℕ) (xs buffer : List ℕ) → length xs ≡ k → k < length buffer → slice_set (over xs buffer) k v ≡ over (xs ++ (v ∷ [])) buffer
over_set k v xs buffer e h = rw (length-append xs (v ∷ []), e) (store_behind xs buffer k v e h)

pub take_over : (k : ℕ) (xs buffer : List ℕ) → length xs ≡ k → take k (over xs buffer) ≡ xs
take_over k xs buffer e = take_at xs (drop (length xs) buffer) k e

-- ---- what is said of each

pub each_nil : {A : Type 0} (P : A → Type 0) → Each P []
unfolding Each
each_nil P = tt

pub each_cons : {A : Type 0} (P : A → Type 0) (x : A) (xs : List A) → P x → Each P xs → Each P (x ∷ xs)
unfolding Each
each_cons P x xs p q = (p, q)

pub each_head : {A : Type 0} (P : A → Type 0) (x : A) (xs : List A) → Each P (x ∷ xs) → P x
unfolding Each
each_head P x xs e = e.0

pub each_rest : {A : Type 0} (P : A → Type 0) (x : A) (xs : List A) → Each P (x ∷ xs) → Each P xs
unfolding Each
each_rest P x xs e = e.1

-- ---- one for which a test says yes

module _ {A : Type 0} (test : A → Bool) where
  -- the library's word says the same
  pub any_some : (xs : List A) → list_any test xs ≡ some_of test xs
  unfolding some_of
  any_some [] = refl
  any_some (x ∷ xs) = ap (λ b. test x || b) (any_some xs)

  pub none_at : (xs : List A) (i : ℕ) (a : A) → i < length xs → some_of test xs ≡ false → test (slice_index_or xs i a) ≡ false
  unfolding some_of
  none_at [] i a h e = absurd (omega arith)
  none_at (x ∷ xs) zero a h e = (neither (test x) e).0
  none_at (x ∷ xs) (suc i) a h e = none_at xs i a (omega arith) (neither (test x) e).1

-- ---- the first for which a test says yes

module _ {A : Type 0} (test : A → Bool) where
  pub first_none : (xs : List A) → first_of test xs ≡ none → (x : A) → Memᴰ x xs → test x ≢ true
  unfolding first_of
  first_none [] e x m t = Memᴰ.not-nil m
  first_none (y ∷ xs) e x m t = go (test y) refl e (first_none xs)
    where
      go : (b : Bool) → test y ≡ b → cond b (some y) (first_of test xs) ≡ none
          → (first_of test xs ≡ none → (x : A) → Memᴰ x xs → test x ≢ true) → ⊥
      go true q e rest = let z : ◌≡◌ {A = ℕ} 0 1 = cc in omega arith
      go false q e rest =
          ⊎_elim (λ r. subst T (sym t ∙ ap test r ∙ q) tt) (λ l. rest e x l t) (Memᴰ.cases_cons m)

  -- it is one of them, the test says yes of it, and it stands before all others for which the test says yes
  pub record First (R : A → A → Type 0) (xs : List A) (x : A) : Type 0 where
    pub among : Memᴰ x xs
    pub yes : test x ≡ true
    pub first : (y : A) → Memᴰ y xs → test y ≡ true → (x ≡ y) ⊎ R x y

  pub first_some : (R : A → A → Type 0) (xs : List A) → Ascending R xs → (x : A) → first_of test xs ≡ some x → First R xs x
  unfolding first_of Ascending
  first_some R [] p x e = let z : ◌≡◌ {A = ℕ} 0 1 = cc in absurd (omega arith)
  first_some R (y ∷ xs) p x e = go (test y) refl e (first_some R xs p.1 x)
    where
      go : (b : Bool) → test y ≡ b → cond b (some y) (first_of test xs) ≡ some x → (first_of test xs ≡ some x → First R xs x)
          → First R (y ∷ xs) x
      go true q e rest =
          let z : x ≡ y = cc in
          record {
            among = Memᴰ.head z;
            yes = ap test z ∙ q;
            first = λ d m t. ⊎_elim (λ r. inl (z ∙ sym r)) (λ l. inr (subst (λ (w : A). R w d) (sym z) (p.0 d l)))
                (Memᴰ.cases_cons m);
          }
      go false q e rest =
          let f = rest e in
          record {
            among = Memᴰ.tail f.among;
            yes = f.yes;
            first = λ d m t. ⊎_elim (λ r. absurd (subst T (sym t ∙ ap test r ∙ q) tt)) (λ l. f.first d l t) (Memᴰ.cases_cons m);
          }

  -- ---- those up to and including the first

  unfoldable pub prefix_to : List A → List A
  prefix_to [] = []
  prefix_to (x ∷ xs) = cond (test x) (x ∷ []) (x ∷ prefix_to xs)

  pub length_prefix : (xs : List A) → length (prefix_to xs) ≡ up_to_first test xs
  unfolding prefix_to up_to_first
  length_prefix [] = refl
  length_prefix (x ∷ xs) = go (test x) (length_prefix xs)
    where
      go : (b : Bool) → length (prefix_to xs) ≡ up_to_first test xs
          → length (cond b (x ∷ []) (x ∷ prefix_to xs)) ≡ cond b 1 (1 + up_to_first test xs)
      go true e = refl
      go false e = omega arith

  pub prefix_among : (xs : List A) (c : A) → Memᴰ c (prefix_to xs) → Memᴰ c xs
  unfolding prefix_to
  prefix_among [] c m = m
  prefix_among (x ∷ xs) c m = go (test x) (prefix_among xs c) m
    where
      go : (b : Bool) → (Memᴰ c (prefix_to xs) → Memᴰ c xs) → Memᴰ c (cond b (x ∷ []) (x ∷ prefix_to xs))
          → Memᴰ c (x ∷ xs)
      go true rest m = ⊎_elim (λ e. Memᴰ.head e) (λ l. absurd (Memᴰ.not-nil l)) (Memᴰ.cases_cons m)
      go false rest m = ⊎_elim (λ e. Memᴰ.head e) (λ l. Memᴰ.tail (rest l)) (Memᴰ.cases_cons m)

  module _ (R : A → A → Type 0) where
    pub prefix_pairwise : (xs : List A) → Ascending R xs → Ascending R (prefix_to xs)
    unfolding prefix_to Ascending
    prefix_pairwise [] p = tt
    prefix_pairwise (x ∷ xs) p = go (test x) (prefix_pairwise xs p.1)
      where
        go : (b : Bool) → Ascending R (prefix_to xs) → Ascending R (cond b (x ∷ []) (x ∷ prefix_to xs))
        go true rest = ((λ y m. absurd (Memᴰ.not-nil m)), tt)
        go false rest = ((λ y m. p.0 y (prefix_among xs y m)), rest)

    -- each of them is, or stands before, each for which the test says yes
    pub prefix_before : (xs : List A) → Ascending R xs → (c : A) → Memᴰ c (prefix_to xs)
        → (d : A) → Memᴰ d xs → test d ≡ true → (c ≡ d) ⊎ R c d
    unfolding prefix_to Ascending
    prefix_before [] p c m d l t = absurd (Memᴰ.not-nil m)
    prefix_before (x ∷ xs) p c m d l t = go (test x) refl m (λ k n. prefix_before xs p.1 c k d n t)
      where
        at_head : c ≡ x → (c ≡ d) ⊎ R c d
        at_head e =
            ⊎_elim (λ r. inl (e ∙ sym r)) (λ n. inr (subst (λ (w : A). R w d) (sym e) (p.0 d n))) (Memᴰ.cases_cons l)

        go : (b : Bool) → test x ≡ b → Memᴰ c (cond b (x ∷ []) (x ∷ prefix_to xs))
            → (Memᴰ c (prefix_to xs) → Memᴰ d xs → (c ≡ d) ⊎ R c d)
            → (c ≡ d) ⊎ R c d
        go true q m rest = ⊎_elim at_head (λ n. absurd (Memᴰ.not-nil n)) (Memᴰ.cases_cons m)
        go false q m rest =
            ⊎_elim at_head
            (λ n. ⊎_elim (λ r. absurd (subst T (sym t ∙ ap test r ∙ q) tt)) (λ k. rest n k) (Memᴰ.cases_cons l))
            (Memᴰ.cases_cons m)

    module _ (asymmetric : (a b : A) → R a b → R b a → ⊥) where
      -- and there are no others
      pub before_prefix : (xs : List A) → Ascending R xs → (c : A) → Memᴰ c xs
          → ((d : A) → Memᴰ d xs → test d ≡ true → (c ≡ d) ⊎ R c d)
          → Memᴰ c (prefix_to xs)
      unfolding prefix_to Ascending
      before_prefix [] p c m u = m
      before_prefix (x ∷ xs) p c m u =
          go (test x) refl (Memᴰ.cases_cons m) (λ k. before_prefix xs p.1 c k (λ d l t. u d (Memᴰ.tail l) t))
        where
          go : (b : Bool) → test x ≡ b → (c ≡ x) ⊎ Memᴰ c xs → (Memᴰ c xs → Memᴰ c (prefix_to xs))
              → Memᴰ c (cond b (x ∷ []) (x ∷ prefix_to xs))
          go true q (inl e) rest = Memᴰ.head e
          go true q (inr k) rest =
              ⊎_elim (λ e. Memᴰ.head e) (λ r. absurd (asymmetric x c (p.0 c k) r)) (u x (Memᴰ.head refl) q)
          go false q (inl e) rest = Memᴰ.head e
          go false q (inr k) rest = Memᴰ.tail (rest k)

-- ---- two lists in order, one among the other

module _ {A : Type 0} (R : A → A → Type 0) (asymmetric : (a b : A) → R a b → R b a → ⊥) where
  pub no_longer : (ys xs : List A) → Ascending R xs → Ascending R ys → ((x : A) → Memᴰ x xs → Memᴰ x ys) → length xs ≤ length ys
  unfolding Ascending
  no_longer ys [] p q u = omega arith
  no_longer [] (x ∷ xs) p q u = absurd (Memᴰ.not-nil (u x (Memᴰ.head refl)))
  no_longer (y ∷ ys) (x ∷ xs) p q u =
      ⊎_elim
      (λ e.
      let rest = no_longer ys xs p.1 q.1
      (λ z m.
      ⊎_elim (λ r. absurd (let s : R x x = subst (λ (w : A). R x w) (r ∙ sym e) (p.0 z m) in asymmetric x x s s)) (λ l. l)
      (Memᴰ.cases_cons (u z (Memᴰ.tail m)))) in
      omega arith)
      (λ n.
      let rest = no_longer ys (x ∷ xs) p q.1
      (λ z m.
      ⊎_elim
      (λ r.
      ⊎_elim (λ s. subst (λ (w : A). Memᴰ w ys) (sym s) n)
      (λ l. absurd (asymmetric x y (subst (λ (w : A). R x w) r (p.0 z l)) (q.0 x n)))
      (Memᴰ.cases_cons m))
      (λ l. l)
      (Memᴰ.cases_cons (u z m))) in
      omega arith)
      (Memᴰ.cases_cons (u x (Memᴰ.head refl)))
