-- An element of one list sought among the sorted keys of another.
use Rattle.std.proofs.Common.{◌≡◌, ℕ, ◌+◌, ◌<◌, ◌≤◌, true, false, List, length, get_or, sym, refl, ⊎_elim, arith}
use Rattle.std.specs.Ordering.{ordering_index}
use Rattle.std.specs.declared.cmp.Ordering.{Ordering}
use Rattle.std.specs.declared.cmp.Ordering.TheVariants as order
use Rattle.std.proofs.lemmas.List.Sorted.{searchable_from_sorted}
use Rattle.centralized_telescope.specs.core.Lists.{some_of}
use Rattle.centralized_telescope.specs.core.Elements.{Element, elements, max_elements}
use Rattle.centralized_telescope.specs.inner.Held.{held}
use Rattle.centralized_telescope.specs.declared.lists.AcceptedList.{AcceptedList}
use Rattle.centralized_telescope.specs.later.Distinct.{same_element}
use Rattle.centralized_telescope.specs.inner.Sorting.{element_in, key_at, rank, rank_cmp, Sorted}
use Rattle.centralized_telescope.specs.laws.ElementsLaws.{length_elements, few_elements}
use Rattle.centralized_telescope.specs.laws.SortingLaws.{rank_total, same_ranks, same_there, key_count, key_held, key_among}
use Rattle.centralized_telescope.specs.laws.PoolLaws.{stands, stands_nowhere}
use Rattle.centralized_telescope.specs.laws.TestLaws.{lt_or_le}

-- the order of a key of the first list and one of the second
abbrev pub order_of : AcceptedList → AcceptedList → ℕ → ℕ → Ordering
order_of first second w v = rank_cmp (rank (element_in first) v) (rank (element_in second) w)

-- of sorted keys those that a search by halves has still to look at: each one in front stands before the key that is sought, each one
-- behind stands behind it
pub record Seeking (first second : AcceptedList) (ws : List ℕ) (w low high : ℕ) : Type 0 where
  pub in_order : low ≤ high
  pub within : high ≤ length ws
  pub before : (x : ℕ) → x < low → order_of first second w (get_or ws x 0) ≡ order.Less
  pub behind : (x : ℕ) → high ≤ x → x < length ws → order_of first second w (get_or ws x 0) ≡ order.Greater

least : (r : Ordering) → ordering_index r ≤ ordering_index order.Less → r ≡ order.Less
least order.Less l = refl
least order.Equal l = absurd (omega arith)
least order.Greater l = absurd (omega arith)

greatest : (r : Ordering) → ordering_index order.Greater ≤ ordering_index r → r ≡ order.Greater
greatest order.Less l = absurd (omega arith)
greatest order.Equal l = absurd (omega arith)
greatest order.Greater l = refl

module _ (first second : AcceptedList) (ws : List ℕ) (S : Sorted (element_in first) (length first.ends.now) ws)
    (q : ℕ) (l : q < length second.ends.now) where
  abbrev d : ℕ → Element
  d = element_in first

  abbrev f : ℕ → Element
  f = element_in second

  few : length first.ends.now ≤ max_elements
  few = few_elements (held first) first.accepted

  few_too : length second.ends.now ≤ max_elements
  few_too = few_elements (held second) second.accepted

  count : length ws ≡ length first.ends.now
  count = key_count d (length first.ends.now) few ws S

  found : (i : ℕ) → i < length ws → order_of first second (key_at f q) (get_or ws i 0) ≡ order.Equal
      → true ≡ some_of (same_element (f q)) (elements (held first))
  found i h e =
      let k = key_held d (length first.ends.now) few ws S i (omega (arith, count)) in
      sym (stands (f q) (elements (held first)) k.0 (omega (arith, k.1, length_elements (held first) first.accepted))
      (sym (same_there d f k.0 q (omega (arith, k.1, few)) (omega (arith, few_too)) (rw k.2 at e))))

  -- each key stands before the place's or behind it
  nowhere : ((x : ℕ) → x < length ws → order_of first second (key_at f q) (get_or ws x 0) ≡ order.Equal → ⊥)
      → false ≡ some_of (same_element (f q)) (elements (held first))
  nowhere n =
      sym (stands_nowhere (f q) (elements (held first)) (λ p h e.
      let there : p < length first.ends.now = omega (arith, length_elements (held first) first.accepted) in
      let k = key_among d (length first.ends.now) few ws S p there in
      n k.0 (omega (arith, k.1, count))
      (rw k.2 (same_ranks d f p q (omega (arith, few)) (omega (arith, few_too)) (sym e)))))

  -- the keys rise as seen from the one that is sought
  rises : (x y : ℕ) → x ≤ y → y < length ws
      → ordering_index (order_of first second (key_at f q) (get_or ws x 0))
      ≤ ordering_index (order_of first second (key_at f q) (get_or ws y 0))
  rises x y l h = searchable_from_sorted rank_total (rank d) ws (rank f (key_at f q)) S.ascending x y 0 l h

  module _ {low high : ℕ} (K : Seeking first second ws (key_at f q) low high) where
    module _ (m : ℕ) (k : low ≤ m) (h : m < high) where
      seek_right : order_of first second (key_at f q) (get_or ws m 0) ≡ order.Less → Seeking first second ws (key_at f q) (m + 1) high
      seek_right e = record {
        in_order = omega arith;
        within = K.within;
        before = λ x j. least _ (let r = rises x m (omega arith) (omega (arith, K.within)) in rw e at r);
        behind = K.behind;
      }

      seek_left : order_of first second (key_at f q) (get_or ws m 0) ≡ order.Greater → Seeking first second ws (key_at f q) low m
      seek_left e = record {
        in_order = k;
        within = omega (arith, K.within);
        before = K.before;
        behind = λ x i j. greatest _ (let r = rises m x i j in rw e at r);
      }

    -- nothing is left
    seek_ends : high ≤ low → false ≡ some_of (same_element (f q)) (elements (held first))
    seek_ends done =
        nowhere (λ x h e.
        ⊎_elim
        (λ k. let t = K.before x k in cc)
        (λ k. let t = K.behind x (omega arith) h in cc)
        (lt_or_le x low))

-- ---- the same of a number that is the key sought

module _ (first second : AcceptedList) (ws : List ℕ) (S : Sorted (element_in first) (length first.ends.now) ws)
    (q : ℕ) (l : q < length second.ends.now) (w : ℕ) (key : w ≡ key_at (element_in second) q) where
  pub seek_begins : Seeking first second ws w 0 (length ws)
  seek_begins = record {
    in_order = omega arith;
    within = omega arith;
    before = λ x k. absurd (omega arith);
    behind = λ x k h. absurd (omega arith);
  }

  module _ {low high : ℕ} (K : Seeking first second ws w low high) where
    pub right_of : (m : ℕ) → low ≤ m → m < high → order_of first second w (get_or ws m 0) ≡ order.Less
        → Seeking first second ws w (m + 1) high
    right_of m k h e = rw key (seek_right first second ws S q l (rw key at K) m k h (rw key at e))

    pub left_of : (m : ℕ) → low ≤ m → m < high → order_of first second w (get_or ws m 0) ≡ order.Greater → Seeking first second ws w low m
    left_of m k h e = rw key (seek_left first second ws S q l (rw key at K) m k h (rw key at e))

    pub sought_nowhere : high ≤ low → false ≡ some_of (same_element (element_in second q)) (elements (held first))
    sought_nowhere done = seek_ends first second ws S q l (rw key at K) done

  pub sought_found : (m : ℕ) → m < length ws → order_of first second w (get_or ws m 0) ≡ order.Equal
      → true ≡ some_of (same_element (element_in second q)) (elements (held first))
  sought_found m h e = found first second ws S q l m h (rw key at e)
