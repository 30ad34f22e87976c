-- Laws of accepted lists. A caller that cites these opens none of the definitions.
use Rattle.std.specs.Prelude.{◌≡◌, ℕ, zero, suc, ◌-◌, ◌<◌, ◌≤◌, Bool, true, false, not, ◌⊎◌, List, [], ◌∷◌, length, take, drop, ◌==◌, ◌≢◌, nat_lt, slice_index, slice_index_or, refl}
use Rattle.std.proofs.Common.{sym, ap, inl, inr, arith, eqb-true, ltb-false, get_or-take}
use Rattle.std.proofs.Math.Option.{Option, none, some}
use Rattle.std.proofs.lemmas.Bool.{not-false}
use Rattle.std.proofs.Math.ListN.{length-take}
use Rattle.sampling.specs.core.FirstNumber.{line, first_number}
use Rattle.centralized_telescope.specs.laws.TestLaws.{neither}
use Rattle.centralized_telescope.specs.core.Elements.{Element, index_of, elements_from, elements, element_at, mark_over}
use Rattle.centralized_telescope.specs.core.Elements.{end_wrong, malformed, data_long, too_large, list_check, Lent, max_data_bytes}
use Rattle.centralized_telescope.specs.core.Elements.{max_elements}
use Rattle.centralized_telescope.specs.later.Words.{mark_of, number_of}
use Rattle.centralized_telescope.specs.inner.ListReading.{start_at, data_at, index_at}

-- ---- what the check of a list says of the whole of it

-- no refusal: neither test said yes
unrefused : (a b : Bool) → first_number (line 4 a ∷ line 5 b ∷ []) ≡ 0 → (a ≡ false) × (b ≡ false)
unfolding first_number
unrefused true b e = absurd (omega arith)
unrefused false true e = absurd (omega arith)
unrefused false false e = (refl, refl)

-- the check's number is one of the table's
in_range : (a b : Bool) → first_number (line 4 a ∷ line 5 b ∷ []) < 6
unfolding first_number
in_range true b = omega arith
in_range false true = omega arith
in_range false false = omega arith

pub check_range : (lent : Lent) → list_check lent < 6
unfolding list_check
check_range lent = in_range (malformed lent) (too_large lent.ends)

-- and where it isn't 0, it is 4 or more
at_least_four : (a b : Bool) → (first_number (line 4 a ∷ line 5 b ∷ []) ≡ 0) ⊎ (4 ≤ first_number (line 4 a ∷ line 5 b ∷ []))
unfolding first_number
at_least_four true b = inr (omega arith)
at_least_four false true = inr (omega arith)
at_least_four false false = inl refl

pub check_least : (lent : Lent) → (list_check lent ≡ 0) ⊎ (4 ≤ list_check lent)
unfolding list_check
check_least lent = at_least_four (malformed lent) (too_large lent.ends)

pub record NoFault (lent : Lent) : Type 0 where
  pub marks : length lent.ends ≡ length lent.marks
  pub indexes : length lent.ends ≡ length lent.indexes
  pub marked : mark_over lent.marks ≡ false
  pub rising : end_wrong 0 (length lent.bytes) lent.ends ≡ false
  pub few : length lent.ends ≤ max_elements
  pub short : data_long 0 lent.ends ≡ false

pub accepted : (lent : Lent) → list_check lent ≡ 0 → NoFault lent
unfolding list_check malformed too_large
accepted lent e =
    let record { bytes = d; ends = n; marks = m; indexes = x } = lent in
    let r = unrefused (malformed lent) (too_large n) e in
    let lengths = neither (not (length n == length m)) r.0 in
    let others = neither (not (length n == length x)) lengths.1 in
    let faults = neither (mark_over m) others.1 in
    let sizes = neither (nat_lt max_elements (length n)) r.1 in
    record {
      marks = eqb-true (length n) (length m) (not-false _ lengths.0);
      indexes = eqb-true (length n) (length x) (not-false _ others.0);
      marked = faults.0;
      rising = faults.1;
      few = ltb-false max_elements (length n) sizes.0;
      short = sizes.1;
    }

-- ---- what it says of one place: each fault is looked for from the front

-- of ends behind one at `from`
end_at : (from limit : ℕ) (n : List ℕ) (i : ℕ) → i < length n → end_wrong from limit n ≡ false
    → (slice_index (from ∷ n) i ≤ slice_index n i) × (slice_index n i ≤ limit)
unfolding end_wrong
end_at from limit [] i h e = absurd (omega arith)
end_at from limit (k ∷ n) zero h e =
    let r = neither (nat_lt k from) e in
    (ltb-false k from r.0, ltb-false limit k (neither (nat_lt limit k) r.1).0)
end_at from limit (k ∷ n) (suc i) h e = end_at k limit n i (omega arith) (neither (nat_lt limit k) (neither (nat_lt k from) e).1).1

size_at : (from : ℕ) (n : List ℕ) (i : ℕ) → i < length n → data_long from n ≡ false → slice_index n i - slice_index (from ∷ n) i ≤ max_data_bytes
unfolding data_long
size_at from [] i h e = absurd (omega arith)
size_at from (k ∷ n) zero h e = ltb-false max_data_bytes (k - from) (neither (nat_lt max_data_bytes (k - from)) e).0
size_at from (k ∷ n) (suc i) h e = size_at k n i (omega arith) (neither (nat_lt max_data_bytes (k - from)) e).1

-- ---- what the list means

-- an element is its data and its index
pub same_parts : {a b : List ℕ} {i j : Option ℕ} → a ≡ b → i ≡ j
    → ◌≡◌ {A = Element} (record { bytes = a; index = i }) (record { bytes = b; index = j })
same_parts p q = rw (p, q)

length_from : (from : ℕ) (d n m x : List ℕ) → length n ≡ length m → length n ≡ length x → length (elements_from from d n m x) ≡ length n
unfolding elements_from
length_from from d [] m x M X = refl
length_from from d (e ∷ n) [] x M X = absurd (omega arith)
length_from from d (e ∷ n) (k ∷ m) [] M X = absurd (omega arith)
length_from from d (e ∷ n) (k ∷ m) (v ∷ x) M X = ap suc (length_from e d n m x (omega arith) (omega arith))

element_from : (from : ℕ) (d n m x : List ℕ) (i : ℕ) → i < length n → length n ≡ length m → length n ≡ length x
    → element_at (elements_from from d n m x) i
    ≡ record { bytes = take (slice_index n i - slice_index (from ∷ n) i) (drop (slice_index (from ∷ n) i) d); index = index_of (slice_index m i) (slice_index x i) }
unfolding elements_from element_at
element_from from d [] m x i h M X = absurd (omega arith)
element_from from d (e ∷ n) [] x i h M X = absurd (omega arith)
element_from from d (e ∷ n) (k ∷ m) [] i h M X = absurd (omega arith)
element_from from d (e ∷ n) (k ∷ m) (v ∷ x) zero h M X = refl
element_from from d (e ∷ n) (k ∷ m) (v ∷ x) (suc i) h M X = element_from e d n m x i (omega arith) (omega arith) (omega arith)

pub index_again : (o : Option ℕ) → index_of (mark_of o) (number_of o) ≡ o
index_again none = refl
index_again (some n) = refl

-- each element but the first starts at the end before it
pub start_later : (n : List ℕ) (i : ℕ) → (i ≢ 0) → start_at n i ≡ slice_index n (i - 1)
unfolding start_at
start_later n zero h = absurd (h refl)
start_later n (suc i) h = let e : i ≡ suc i - 1 = omega arith in ap (λ (k : ℕ). slice_index n k) e

-- the place's start and end are within the data, of which no more than its ends are known
module _ (d n : List ℕ) (W : end_wrong 0 (length d) n ≡ false) (i : ℕ) (h : i < length n) where
  pub start_before_end : start_at n i ≤ slice_index n i
  unfolding start_at
  start_before_end = (end_at 0 (length d) n i h W).0

  pub end_within : slice_index_or n i 0 ≤ length d
  end_within = (end_at 0 (length d) n i h W).1

module _ (lent : Lent) (A : list_check lent ≡ 0) where
  open lent use {bytes as d, ends as n, marks as m, indexes as x}

  pub same_marks : length n ≡ length m
  same_marks = (accepted lent A).marks

  pub same_indexes : length n ≡ length x
  same_indexes = (accepted lent A).indexes

  pub few_elements : length n ≤ max_elements
  few_elements = (accepted lent A).few

  pub ends_right : end_wrong 0 (length d) n ≡ false
  ends_right = (accepted lent A).rising

  pub length_elements : length (elements lent) ≡ length n
  length_elements = length_from 0 d n m x same_marks same_indexes

  module _ (i : ℕ) (h : i < length n) where
    size_within : slice_index_or n i 0 - start_at n i ≤ max_data_bytes
    unfolding start_at
    size_within = size_at 0 n i h (accepted lent A).short

    -- the element there, as the code reads it
    pub element_there : element_at (elements lent) i ≡ record { bytes = data_at d n i; index = index_at m x i }
    unfolding data_at start_at
    element_there = element_from 0 d n m x i h same_marks same_indexes

    pub data_there : (element_at (elements lent) i).bytes ≡ data_at d n i
    data_there = ap (λ (e : Element). e.bytes) element_there

    pub place_within : (i < length m) × (i < length x)
    place_within = (omega (arith, same_marks), omega (arith, same_indexes))

    pub data_short : length (data_at d n i) ≤ max_data_bytes
    unfolding data_at
    data_short = simp length-take (omega (arith, size_within))

    pub bytes_short : length (element_at (elements lent) i).bytes ≤ max_data_bytes
    bytes_short = rw data_there data_short

-- ---- the first k elements of a list: a place among them means the same element in both

pub at_kept : (k : ℕ) (es : List Element) (place : ℕ) → place < length (take k es) → element_at es place ≡ element_at (take k es) place
unfolding element_at
at_kept k es place l = sym (get_or-take k es place _ (omega (arith, length-take k es)))
