-- Reading a ticket: a number and an element's head out of the joined bodies, one element more of the layout, what follows the elements, and
-- one element more read.
use Rattle.std.proofs.Common.{◌≡◌, ℕ, suc, ◌+◌, ◌-◌, ◌*◌, ◌/◌, ◌<◌, ◌≤◌, true, false, not, ltb, List, ◌∷◌, ◌++◌, length, get_or, take, drop, sym, refl, ap, ⊎_elim, min, ◌∙◌, add-one, arith, length-drop, take-append-drop, length-take-le, take_all, drop-cons, drop-drop, take_at, le-leb}
use borrow.Author.Tests.{lt-leb, ne_eqb}
use Rattle.std.proofs.lemmas.Bool.{cases_eq}
use Rattle.std.proofs.lemmas.List.{get_or_default}
use lib.Seq.{drop-append-le}
use Rattle.sampling.specs.core.BigEndian.{big_endian}
use Rattle.sampling.specs.laws.BigEndianLaws.{big_endian_append}
use Rattle.centralized_telescope.specs.core.Lists.{some_of}
use Rattle.centralized_telescope.specs.later.Blocks.{bodies, bodies_of, body_bytes, block_bytes, max_filling}
use Rattle.centralized_telescope.specs.core.Elements.{Element, element_at, index_of, Lent, lent_of, max_data_bytes}
use Rattle.centralized_telescope.specs.later.ProofList.{joined_data, list_over, with_buffers, buffers_short}
use Rattle.centralized_telescope.specs.inner.BuffersHeld.{with_element}
use Rattle.centralized_telescope.specs.inner.Held.{option_of}
use Rattle.centralized_telescope.specs.later.Tickets.{blocks_in, element_in, elements_in, elements_part, ticket_head_bytes}
use Rattle.centralized_telescope.specs.declared.ticket.HeadRead.{HeadRead}
use Rattle.centralized_telescope.specs.inner.TicketReading.{mark_in, head_size, size_in, laid_out, HeadIs, all_laid_out, layout_size}
use Rattle.centralized_telescope.specs.inner.TicketReading.{data_size, LayoutIs, filling_right}
use Rattle.centralized_telescope.specs.laws.TestLaws.{refuted, both}
use Rattle.centralized_telescope.specs.laws.BytesLaws.{number_front}
use Rattle.centralized_telescope.specs.laws.BlocksLaws.{length_bodies}
use Rattle.centralized_telescope.specs.laws.TicketsLaws.{ElementLaid, element_laid, elements_count, elements_more, data_size_lem}
use Rattle.centralized_telescope.proofs.ProofWriting.{Rooms, rooms, data_fits, rooms_now, one_written}

-- ---- the joined bodies

pub length_of_bodies : (t : List ℕ) → length (bodies_of t) ≡ body_bytes * (length t / block_bytes)
length_of_bodies t = length_bodies (length t / block_bytes) t (omega arith)

pub left_of_bodies : (t : List ℕ) (at : ℕ) → length (drop at (bodies_of t)) ≡ body_bytes * (length t / block_bytes) - at
left_of_bodies t at = length-drop at (bodies_of t) ∙ ap (λ (n : ℕ). n - at) (length_of_bodies t)

-- ---- a number that was copied to the front of an array

pub field_copied : (t : List ℕ) (at k : ℕ) (z r : List ℕ) → at + k ≤ body_bytes * (length t / block_bytes)
    → r ≡ take 0 z ++ (take k (drop at (bodies_of t)) ++ drop (0 + k) z) → big_endian k (drop 0 r) ≡ big_endian k (drop at (bodies_of t))
field_copied t at k z r h e =
    rw e (number_front k k (drop at (bodies_of t)) (drop (0 + k) z) (omega arith) (omega (arith, left_of_bodies t at)))

-- ---- the number of blocks: less than one block states none

pub none_stated : (t : List ℕ) → length t < block_bytes → 0 ≡ blocks_in (bodies_of t)
unfolding bodies big_endian
none_stated t h = let e : length t / block_bytes ≡ 0 = omega arith in rw e

-- ---- the head of the element at an offset

pub laid : (s : List ℕ) → mark_in s ≤ 1 → size_in s ≤ max_data_bytes → head_size s + size_in s ≤ length s → laid_out s ≡ true
unfolding laid_out
laid s m z w =
    rw (
      le-leb 5 (length s) (omega arith),
      le-leb (mark_in s) 1 m,
      le-leb (head_size s) (length s) (omega arith),
      le-leb (size_in s) max_data_bytes z,
      le-leb (head_size s + size_in s) (length s) w,
    )

pub outside : (s : List ℕ) → (ElementLaid s → ⊥) → laid_out s ≡ false
outside s f = refuted (laid_out s) (λ e. f (element_laid s e))

-- what is read of it in an array that the bytes from its offset on were copied to, as far as they go
pub record HeadCopied (s r : List ℕ) : Type 0 where
  pub mark : get_or r 0 0 ≡ mark_in s
  -- the index's number is looked at where the mark is 1
  pub «index» : head_size s ≤ length s → mark_in s ≤ 1
      → index_of (get_or r 0 0) (big_endian 8 (drop 1 r)) ≡ index_of (mark_in s) (big_endian 8 (drop 1 s))
  pub size : head_size s ≤ length s → mark_in s ≤ 1 → big_endian 4 (drop (5 + 8 * get_or r 0 0 - 4) r) ≡ size_in s

module _ (s z r : List ℕ) (k : ℕ) (K : k ≡ min (length s) 13) (C : r ≡ take 0 z ++ (take k s ++ drop (0 + k) z)) where
  number_there : (p j : ℕ) → p + j ≤ k → big_endian j (drop p r) ≡ big_endian j (drop p s)
  number_there p j l =
      let t = take k s in
      let n : length t ≡ k = length-take-le k s (omega arith) in
      let d : length (drop p t) ≡ k - p = length-drop p t ∙ ap (λ i. i - p) n in
      rw (C, drop-append-le p t (drop (0 + k) z) (omega arith))
      (big_endian_append j (drop p t) (drop (0 + k) z) (omega arith)
      ∙ sym (big_endian_append j (drop p t) (drop k s) (omega arith))
      ∙ ap (big_endian j) (sym (drop-append-le p t (drop k s) (omega arith)) ∙ ap (drop p) (take-append-drop k s)))

  pub head_copied : 5 ≤ length s → HeadCopied s r
  unfolding big_endian
  head_copied h =
      let first : get_or r 0 0 ≡ mark_in s = (let e = number_there 0 1 (omega arith) in omega arith) in
      record {
        mark = first;
        «index» = λ l m. rw first
            (⊎_elim
            (λ (one : mark_in s ≡ 1). ap (index_of (mark_in s)) (number_there 1 8 (omega arith)))
            (λ (other : mark_in s ≡ 1 → ⊥). rw (ne_eqb (mark_in s) 1 other) refl)
            (cases_eq (mark_in s) 1));
        size = λ l m.
            let q : 5 + 8 * mark_in s - 4 ≡ 1 + 8 * mark_in s = omega arith in
            rw (first, q) (number_there (1 + 8 * mark_in s) 4 (omega arith));
      }

-- ---- the layout: the first i of `count` elements are passed, they end at an offset, and they have so many data bytes

pub record Passed (t : List ℕ) (count i at used : ℕ) : Type 0 where
  pub most : i ≤ count
  pub within : at ≤ body_bytes * (length t / block_bytes)
  pub small : used ≤ max_data_bytes * i
  pub laid : all_laid_out count (elements_part (bodies_of t)) ≡ all_laid_out (count - i) (drop at (bodies_of t))
  pub ends_at : at + layout_size (count - i) (drop at (bodies_of t)) ≡ ticket_head_bytes + layout_size count (elements_part (bodies_of t))
  pub uses : used + data_size (count - i) (drop at (bodies_of t)) ≡ data_size count (elements_part (bodies_of t))

pub none_passed : (t : List ℕ) (count : ℕ) → ticket_head_bytes ≤ body_bytes * (length t / block_bytes) → Passed t count 0 ticket_head_bytes 0
none_passed t count h =
    let e : count - 0 ≡ count = omega arith in
    record { most = omega arith; within = h; small = omega arith; laid = rw e; ends_at = rw e; uses = rw e (omega arith) }

module _ (t : List ℕ) (count i at used : ℕ) (p : Passed t count i at used) where
  pub all_passed : count ≤ i → LayoutIs at used count (bodies_of t)
  unfolding all_laid_out layout_size data_size
  all_passed h =
      let e : count - i ≡ 0 = omega arith in
      record {
        laid = rw e at p.laid;
        ends_at = let q = rw e at p.ends_at in omega arith;
        uses = let q = rw e at p.uses in omega arith;
      }

  module _ (h : i < count) where
    one_left : count - i ≡ suc (count - (i + 1))
    one_left = omega arith

    pub outside_passed : laid_out (drop at (bodies_of t)) ≡ false → all_laid_out count (elements_part (bodies_of t)) ≡ false
    unfolding all_laid_out
    outside_passed e = p.laid ∙ rw (one_left, e)

    pub inside_passed : all_laid_out count (elements_part (bodies_of t)) ≡ true → laid_out (drop at (bodies_of t)) ≡ true
    unfolding all_laid_out
    inside_passed e = (both (laid_out (drop at (bodies_of t))) (rw one_left at (sym p.laid ∙ e))).0

    pub one_passed : (r : HeadRead) → HeadIs r (drop at (bodies_of t)) → Passed t count (i + 1) (at + (r.len + r.size)) (used + r.size)
    unfolding all_laid_out layout_size data_size
    one_passed r R =
        let s : List ℕ = drop at (bodies_of t) in
        let f = element_laid s R.laid in
        let l = left_of_bodies t at in
        let d : drop (head_size s + size_in s) s ≡ drop (at + (r.len + r.size)) (bodies_of t) =
        rw (← R.len, ← R.size) (drop-drop (r.len + r.size) at (bodies_of t)) in
        record {
          most = omega arith;
          within = omega (arith, R.len, R.size);
          small = omega (arith, p.small, f.short, R.size);
          laid = p.laid ∙ rw (one_left, R.laid, d);
          ends_at = let e = rw (one_left, d) at p.ends_at in omega (arith, R.len, R.size);
          uses = let e = rw (one_left, d) at p.uses in omega (arith, R.size);
        }

-- ---- what follows the elements

pub filling_long : (s : List ℕ) → max_filling < length s → false ≡ filling_right s
unfolding filling_right
filling_long s h = rw (lt-leb (length s) max_filling h)

-- with the bytes copied to the front of an array
pub filling_copied : (n : ℕ) (s z r : List ℕ) → n ≡ length s → n ≤ max_filling → r ≡ take 0 z ++ (take n s ++ drop (0 + n) z)
    → not (some_of (ltb 0) (take n r)) ≡ filling_right s
unfolding filling_right
filling_copied n s z r N h e =
    let a : take n s ≡ s = take_all n s (omega arith) in
    rw (e, a, take_at s (drop (0 + n) z) n (sym N), le-leb (length s) max_filling (omega arith))

-- ---- the elements: the first i are read, and the rest stand at the offset

abbrev pub elements_of : List ℕ → ℕ → List Element
elements_of t count = elements_in count (elements_part (bodies_of t))

abbrev pub Rest : List ℕ → ℕ → ℕ → ℕ → Type 0
Rest t count i at = elements_in (count - i) (drop at (bodies_of t)) ≡ drop i (elements_of t count)

pub none_read : (t : List ℕ) (count : ℕ) → Rest t count 0 ticket_head_bytes
none_read t count = let e : count - 0 ≡ count = omega arith in rw e

module _ (t : List ℕ) (count i at : ℕ) (h : i < count) (F : Rest t count i at) (r : HeadRead) (R : HeadIs r (drop at (bodies_of t))) where
  abbrev there : Element
  there = element_in (drop at (bodies_of t))

  pub in_count : i < length (elements_of t count)
  in_count = omega (arith, elements_count count (elements_part (bodies_of t)))

  split : there ∷ elements_in (count - (i + 1)) (drop (at + (r.len + r.size)) (bodies_of t))
      ≡ get_or (elements_of t count) i there ∷ drop (i + 1) (elements_of t count)
  split =
      let n : count - i ≡ suc (count - suc i) = omega arith in
      let m = elements_more (count - suc i) (drop at (bodies_of t)) R.laid in
      rw (
        ← drop-drop (r.len + r.size) at (bodies_of t),
        R.len,
        R.size,
        add-one i,
        ← drop-cons (elements_of t count) i there in_count,
        ← F,
        n,
      ) (sym m)

  pub rest_more : Rest t count (i + 1) (at + (r.len + r.size))
  rest_more = cc split

  -- what the code reads of it
  abbrev pub found : Element
  found = record { bytes = take r.size (drop (at + r.len) (bodies_of t)); index = option_of r.«index» }

  own_is : found.bytes ≡ there.bytes
  own_is = rw (← drop-drop r.len at (bodies_of t), R.len, R.size) (sym (element_laid (drop at (bodies_of t)) R.laid).own)

  own_size : length found.bytes ≡ r.size
  own_size = ap length own_is ∙ (element_laid (drop at (bodies_of t)) R.laid).own_size ∙ sym R.size

  found_is : found ≡ element_at (elements_of t count) i
  unfolding element_at
  found_is =
      let e : get_or (elements_of t count) i there ≡ there = cc split in
      let same : found ≡ there = rw (own_is, R.«index», ← (element_laid (drop at (bodies_of t)) R.laid).index) refl in
      same ∙ sym e ∙ get_or_default (elements_of t count) i _ _ in_count

  module _ (buffers : Lent) (room : Rooms (length (elements_of t count)) (length (joined_data (elements_of t count))) buffers)
      (now : Lent) (used : ℕ) (W : with_buffers 0 used now ≡ list_over (take i (elements_of t count)) buffers) where
    pub found_rooms : Rooms (length (elements_of t count)) (length (joined_data (elements_of t count))) now
    found_rooms = rooms_now (elements_of t count) buffers room i in_count now used W

    pub found_fits : used + r.size ≤ length now.bytes
    found_fits =
        omega (
          arith,
          found_rooms.data_room,
          data_fits (elements_of t count) buffers room i in_count now used W,
          own_size,
          ap (λ (e : Element). length e.bytes) found_is,
        )

    pub one_read : (o : List ℕ) → o ≡ take used now.bytes ++ (found.bytes ++ drop (used + r.size) now.bytes)
        → (after : Lent) → after ≡ with_element i (used + r.size) found.index (lent_of o now.ends now.marks now.indexes)
        → with_buffers 0 (used + r.size) after ≡ list_over (take (i + 1) (elements_of t count)) buffers
    one_read o C after A =
        rw (← own_size)
        (one_written (elements_of t count) buffers room i in_count now used W found found_is o (rw own_size C) after (rw own_size A))

-- the room that was looked for is that of the elements
pub room_found : (t : List ℕ) (count : ℕ) (buffers : Lent) → all_laid_out count (elements_part (bodies_of t)) ≡ true
    → buffers_short count (data_size count (elements_part (bodies_of t))) buffers ≡ false
    → Rooms (length (elements_of t count)) (length (joined_data (elements_of t count))) buffers
room_found t count buffers L h =
    rw (elements_count count (elements_part (bodies_of t)), ← data_size_lem count (elements_part (bodies_of t)) L)
    (rooms count (data_size count (elements_part (bodies_of t))) buffers h)

pub all_read : (t : List ℕ) (count i : ℕ) → count ≤ i → length (elements_of t count) ≤ i
all_read t count i h = omega (arith, elements_count count (elements_part (bodies_of t)))
