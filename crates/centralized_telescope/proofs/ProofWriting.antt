-- Writing a list of elements into buffers: what room they have, the data so far, and one element more behind those that are written.
use Rattle.std.proofs.Common.{◌≡◌, ℕ, zero, suc, ◌+◌, ◌<◌, ◌≤◌, false, ltb, List, [], ◌∷◌, ◌++◌, length, get_or, take, drop, set, sym, refl, ap, ◌∙◌, append_assoc, append-nil, arith, length-append, length-drop, length-take-le, take_all, drop-drop, take_at, ltb-false}
use mathlib.Core.List.{map-append}
use lib.ListN.{length-map}
use lib.Seq.{drop-append-add}
use Rattle.std.proofs.lemmas.List.{take_more, get_or-map}
use Rattle.centralized_telescope.specs.core.Elements.{Element, element_at, elements, Lent, lent_of}
use Rattle.centralized_telescope.specs.core.Lists.{over}
use Rattle.centralized_telescope.specs.later.Words.{mark_of, number_of}
use Rattle.centralized_telescope.specs.later.ProofList.{joined_data, ends_from, marks_of, indexes_of, chosen, place_out, ProofList}
use Rattle.centralized_telescope.specs.later.ProofList.{list_over, with_buffers, buffers_short}
use Rattle.centralized_telescope.specs.inner.BuffersHeld.{with_element}
use Rattle.centralized_telescope.specs.laws.TestLaws.{neither}
use Rattle.centralized_telescope.specs.laws.ListsLaws.{over_set}
use Rattle.centralized_telescope.specs.laws.ProofListLaws.{length_ends, place_within}

-- ---- a copy into the middle of a buffer

pub copied : (used : ℕ) (own out r : List ℕ) (n : ℕ) → n ≡ length own → r ≡ own
    → take used out ++ (r ++ drop n (drop used out)) ≡ take used out ++ (own ++ drop (used + length own) out)
copied used own out r n k e = rw (e, k, drop-drop (length own) used out)

-- ---- buffers with room

pub record Rooms (count size : ℕ) (buffers : Lent) : Type 0 where
  pub ends_room : count ≤ length buffers.ends
  pub marks_room : count ≤ length buffers.marks
  pub indexes_room : count ≤ length buffers.indexes
  pub data_room : size ≤ length buffers.bytes

pub rooms : (count size : ℕ) (buffers : Lent) → buffers_short count size buffers ≡ false → Rooms count size buffers
unfolding buffers_short
rooms count size buffers h =
    let record { bytes = b; ends = n; marks = m; indexes = x } = buffers in
    let e = neither (ltb (length n) count) h in
    let k = neither (ltb (length m) count) e.1 in
    let i = neither (ltb (length x) count) k.1 in
    record {
      ends_room = ltb-false (length n) count e.0;
      marks_room = ltb-false (length m) count k.0;
      indexes_room = ltb-false (length x) count i.0;
      data_room = ltb-false (length b) size i.1;
    }

-- ---- the data of the first elements, and of one more

joined_append : (es : List Element) (e : Element) → joined_data (es ++ (e ∷ [])) ≡ joined_data es ++ e.bytes
unfolding joined_data
joined_append [] e = append-nil e.bytes
joined_append (k ∷ es) e = rw (joined_append es e, append_assoc)

one_more : (es : List Element) (i : ℕ) → i < length es → take (i + 1) es ≡ take i es ++ (element_at es i ∷ [])
unfolding element_at
one_more es i h = take_more es i _ h

pub joined_more : (es : List Element) (i : ℕ) → i < length es
    → length (joined_data (take (i + 1) es)) ≡ length (joined_data (take i es)) + length (element_at es i).bytes
joined_more es i h =
    rw (one_more es i h, joined_append (take i es) (element_at es i)) (length-append (joined_data (take i es)) (element_at es i).bytes)

data_within : (es : List Element) (i : ℕ) → i < length es
    → length (joined_data (take i es)) + length (element_at es i).bytes ≤ length (joined_data es)
unfolding joined_data element_at
data_within [] i h = absurd (omega arith)
data_within (e ∷ es) zero h = omega (arith, length-append e.bytes (joined_data es))
data_within (e ∷ es) (suc i) h =
    omega (
      arith,
      data_within es i (omega arith),
      length-append e.bytes (joined_data es),
      length-append e.bytes (joined_data (take i es)),
    )

-- ---- the elements at some places of a list

pub chosen_rooms : (ps : List ℕ) (lent buffers : Lent)
    → buffers_short (length ps) (length (joined_data (chosen ps lent))) buffers ≡ false
    → Rooms (length (chosen ps lent)) (length (joined_data (chosen ps lent))) buffers
chosen_rooms ps lent buffers h =
    rw (length-map ps (element_at (elements lent))) (rooms (length ps) (length (joined_data (chosen ps lent))) buffers h)

-- the place of a turn, and what is read there
module _ (ps : List ℕ) (lent : Lent) (i : ℕ) (h : i < length ps) (place : ℕ) (P : place ≡ get_or ps i 0) where
  pub in_list : place_out (length lent.ends) ps ≡ false → place < length lent.ends
  in_list e = omega (arith, P, place_within (length lent.ends) ps i h e)

  pub one_chosen : i < length (chosen ps lent)
  one_chosen = omega (arith, length-map ps (element_at (elements lent)))

  pub chosen_read : (e : Element) → e ≡ element_at (elements lent) place → e ≡ element_at (chosen ps lent) i
  unfolding element_at
  chosen_read e E = E ∙ ap (element_at (elements lent)) P ∙ sym (get_or-map (element_at (elements lent)) ps i 0 _ h)

-- ---- one element more in the buffers

ends_more : (from : ℕ) (es : List Element) (e : Element)
    → ends_from from (es ++ (e ∷ [])) ≡ ends_from from es ++ ((from + length (joined_data es) + length e.bytes) ∷ [])
unfolding ends_from joined_data
ends_more from [] e = ap (λ (k : ℕ). k ∷ []) (omega arith)
ends_more from (k ∷ es) e =
    let l : from + length k.bytes + length (joined_data es) + length e.bytes ≡ from + length (k.bytes ++ joined_data es)
    + length e.bytes
    = omega (arith, length-append k.bytes (joined_data es)) in
    ap (λ (t : List ℕ). (from + length k.bytes) ∷ t)
    (ends_more (from + length k.bytes) es e ∙ ap (λ (v : ℕ). ends_from (from + length k.bytes) es ++ (v ∷ [])) l)

pub over_append : (xs ys s : List ℕ) → take (length xs) (over xs s) ++ (ys ++ drop (length xs + length ys) (over xs s)) ≡ over (xs ++ ys) s
over_append xs ys s =
    rw (
      take_at xs (drop (length xs) s) (length xs) refl,
      drop-append-add xs (drop (length xs) s) (length ys),
      drop-drop (length ys) (length xs) s,
      length-append xs ys,
      append_assoc xs ys,
    )

over_length : (xs s n : List ℕ) → n ≡ over xs s → length xs ≤ length s → length n ≡ length s
over_length xs s n e h = ap length e ∙ omega (arith, length-append xs (drop (length xs) s), length-drop (length xs) s)

-- in a buffer that holds xs, the number behind them
set_more : (k v u : ℕ) (n' n xs ys : List ℕ) → n' ≡ over xs n → length xs ≡ k → k < length n → v ≡ u → ys ≡ xs ++ (u ∷ [])
    → set n' k v ≡ over ys n
set_more k v u n' n xs ys B K N U Y = rw (B, U, Y) (over_set k u xs n K N)

same : {k k' : ℕ} {b b' n n' m m' x x' : List ℕ} → k ≡ k' → b ≡ b' → n ≡ n' → m ≡ m' → x ≡ x'
    → with_buffers 0 k (lent_of b n m x) ≡ with_buffers 0 k' (lent_of b' n' m' x')
same K B N M X = rw (K, B, N, M, X)

module _ (es : List Element) (e : Element) (buffers now : Lent) (k used : ℕ) (W : with_buffers 0 used now ≡ list_over es buffers)
    (K : length es ≡ k) where
  open buffers use {bytes as b, ends as n, marks as m, indexes as x}

  written_more : k < length n → k < length m → k < length x
      → (t : List ℕ) → t ≡ take used now.bytes ++ (e.bytes ++ drop (used + length e.bytes) now.bytes)
      → with_buffers 0 (used + length e.bytes) (with_element k (used + length e.bytes) e.index (lent_of t now.ends now.marks now.indexes))
      ≡ list_over (es ++ (e ∷ [])) buffers
  unfolding list_over
  written_more N M X t C =
      let U : used ≡ length (joined_data es) = ap (λ (w : ProofList). w.len) W in
      same
      (rw (joined_append es e, length-append (joined_data es) e.bytes, U))
      (C ∙ rw (U, ap (λ (w : ProofList). w.buffers.bytes) W, over_append (joined_data es) e.bytes b, joined_append es e))
      (set_more k (used + length e.bytes) (0 + length (joined_data es) + length e.bytes) now.ends n (ends_from 0 es)
      (ends_from 0 (es ++ (e ∷ []))) (ap (λ (w : ProofList). w.buffers.ends) W) (length_ends 0 es ∙ K) N (omega (arith, U)) (ends_more 0 es e))
      (set_more k (mark_of e.index) (mark_of e.index) now.marks m (marks_of es) (marks_of (es ++ (e ∷ [])))
      (ap (λ (w : ProofList). w.buffers.marks) W) (length-map es (λ (a : Element). mark_of a.index) ∙ K) M refl
      (map-append (λ (a : Element). mark_of a.index) es (e ∷ [])))
      (set_more k (number_of e.index) (number_of e.index) now.indexes x (indexes_of es) (indexes_of (es ++ (e ∷ [])))
      (ap (λ (w : ProofList). w.buffers.indexes) W) (length-map es (λ (a : Element). number_of a.index) ∙ K) X refl
      (map-append (λ (a : Element). number_of a.index) es (e ∷ [])))

-- ---- a turn: of all elements the first i are written into buffers with room for all

pub none_written : (buffers : Lent) → with_buffers 0 0 buffers ≡ list_over [] buffers
unfolding list_over joined_data ends_from
none_written buffers = refl

module _ (es : List Element) (buffers : Lent) (r : Rooms (length es) (length (joined_data es)) buffers) (i : ℕ) (h : i < length es)
    (now : Lent) (used : ℕ) (W : with_buffers 0 used now ≡ list_over (take i es) buffers) where
  K : length (take i es) ≡ i
  K = length-take-le i es (omega arith)

  pub used_is : used ≡ length (joined_data (take i es))
  unfolding list_over
  used_is = ap (λ (w : ProofList). w.len) W

  pub data_fits : used + length (element_at es i).bytes ≤ length (joined_data es)
  data_fits = omega (arith, used_is, data_within es i h)

  -- the buffers are as long as they were
  pub rooms_now : Rooms (length es) (length (joined_data es)) now
  unfolding list_over
  rooms_now =
      let n = over_length (ends_from 0 (take i es)) buffers.ends now.ends (ap (λ (w : ProofList). w.buffers.ends) W)
      (omega (arith, length_ends 0 (take i es), K, r.ends_room)) in
      let m = over_length (marks_of (take i es)) buffers.marks now.marks (ap (λ (w : ProofList). w.buffers.marks) W)
      (omega (arith, length-map (take i es) (λ (a : Element). mark_of a.index), K, r.marks_room)) in
      let x = over_length (indexes_of (take i es)) buffers.indexes now.indexes (ap (λ (w : ProofList). w.buffers.indexes) W)
      (omega (arith, length-map (take i es) (λ (a : Element). number_of a.index), K, r.indexes_room)) in
      let b = over_length (joined_data (take i es)) buffers.bytes now.bytes (ap (λ (w : ProofList). w.buffers.bytes) W)
      (omega (arith, data_within es i h, r.data_room)) in
      record {
        ends_room = omega (arith, n, r.ends_room);
        marks_room = omega (arith, m, r.marks_room);
        indexes_room = omega (arith, x, r.indexes_room);
        data_room = omega (arith, b, r.data_room);
      }

  -- its data copied behind the others', and its end, mark and index put
  pub one_written : (e : Element) → e ≡ element_at es i → (t : List ℕ)
      → t ≡ take used now.bytes ++ (e.bytes ++ drop (used + length e.bytes) now.bytes)
      → (after : Lent) → after ≡ with_element i (used + length e.bytes) e.index (lent_of t now.ends now.marks now.indexes)
      → with_buffers 0 (used + length e.bytes) after ≡ list_over (take (i + 1) es) buffers
  one_written e E t C after A =
      rw (A, one_more es i h, ← E)
      (written_more (take i es) e buffers now i used W K (omega (arith, r.ends_room)) (omega (arith, r.marks_room))
      (omega (arith, r.indexes_room)) t C)

pub all_written : (es : List Element) (buffers now : Lent) (used i : ℕ) → length es ≤ i
    → with_buffers 0 used now ≡ list_over (take i es) buffers → with_buffers 0 used now ≡ list_over es buffers
all_written es buffers now used i h W = W ∙ rw (take_all i es h)
