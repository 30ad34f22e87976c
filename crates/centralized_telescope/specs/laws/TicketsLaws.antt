-- Laws of the layout of a ticket's bodies: what the reader looks at (specs/inner/TicketReading) is what is found there (Tickets).
use Rattle.std.specs.Prelude.{◌≡◌, ℕ, zero, suc, ◌+◌, ◌*◌, ◌^◌, ◌<◌, ◌≤◌, true, List, [], ◌∷◌, ◌++◌, length, take, drop, nat_le, refl}
use Rattle.std.proofs.Common.{sym, ap, ◌∙◌, arith, length-append, length-drop, take-append-drop, take-add, take_at, drop_at, drop-drop, length-take-le}
use mathlib.Core.List.{append_assoc}
use Rattle.std.proofs.Math.Option.{Option, none, some}
use borrow.Author.Tests.{leb-true, le-leb}
use Rattle.sampling.specs.core.BigEndian.{big_endian, bytes_of}
use Rattle.sampling.specs.laws.BigEndianLaws.{length_bytes_of}
use Rattle.centralized_telescope.specs.laws.TestLaws.{both}
use Rattle.centralized_telescope.specs.laws.BytesLaws.{Bytes, bytes_drop, bytes_again, number_found}
use Rattle.centralized_telescope.specs.core.Lists.{Each}
use Rattle.centralized_telescope.specs.core.Elements.{Element, index_bytes, index_of, max_data_bytes}
use Rattle.centralized_telescope.specs.later.Words.{mark_of, number_of}
use Rattle.centralized_telescope.specs.later.ProofList.{joined_data}
use Rattle.centralized_telescope.specs.later.ElementBytes.{head_bytes, element_bytes, elements_bytes}
use Rattle.centralized_telescope.specs.laws.ElementBytesLaws.{index_length, head_length, marked_one}
use Rattle.centralized_telescope.specs.later.Tickets.{ElementFits, element_in, elements_in}
use Rattle.centralized_telescope.specs.inner.TicketReading.{mark_in, head_size, size_in, laid_out, all_laid_out, layout_size, data_size}

-- ---- an index by a mark of 0 or 1

index_mark : (m v : ℕ) → m ≤ 1 → mark_of (index_of m v) ≡ m
index_mark zero v h = refl
index_mark (suc zero) v h = refl
index_mark (suc (suc m)) v h = absurd (omega arith)

index_size : (m v : ℕ) → m ≤ 1 → length (index_bytes (index_of m v)) ≡ 8 * m
index_size zero v h = refl
index_size (suc zero) v h = length_bytes_of 8 v
index_size (suc (suc m)) v h = absurd (omega arith)

index_again : (m : ℕ) (r : List ℕ) → Bytes r → m ≤ 1 → 8 * m ≤ length r → index_bytes (index_of m (big_endian 8 r)) ≡ take (8 * m) r
index_again zero r B h l = refl
index_again (suc zero) r B h l = bytes_again 8 r B l
index_again (suc (suc m)) r B h l = absurd (omega arith)

-- ---- one element at the front of bytes

pub record ElementLaid (s : List ℕ) : Type 0 where
  pub size : length (element_bytes (element_in s)) ≡ head_size s + size_in s
  pub own : (element_in s).bytes ≡ take (size_in s) (drop (head_size s) s)
  pub own_size : length (element_in s).bytes ≡ size_in s
  pub index : (element_in s).index ≡ index_of (mark_in s) (big_endian 8 (drop 1 s))
  pub short : size_in s ≤ max_data_bytes
  pub within : head_size s + size_in s ≤ length s
  pub marked : mark_in s ≤ 1

own_part : (s : List ℕ) → mark_in s ≤ 1 → (element_in s).bytes ≡ take (size_in s) (drop (head_size s) s)
unfolding element_in
own_part s h =
    let q : 1 + 8 * mark_in s + 4 ≡ head_size s = omega arith in
    rw (index_size (mark_in s) (big_endian 8 (drop 1 s)) h, drop-drop 4 (1 + 8 * mark_in s) s, q)

index_part : (s : List ℕ) → (element_in s).index ≡ index_of (mark_in s) (big_endian 8 (drop 1 s))
unfolding element_in
index_part s = refl

pub element_laid : (s : List ℕ) → laid_out s ≡ true → ElementLaid s
unfolding laid_out element_bytes
element_laid s e =
    let m = both (nat_le (mark_in s) 1) (both (nat_le 5 (length s)) e).1 in
    let z = both (nat_le (size_in s) max_data_bytes) (both (nat_le (head_size s) (length s)) m.1).1 in
    let marked : mark_in s ≤ 1 = leb-true (mark_in s) 1 m.0 in
    let within : head_size s + size_in s ≤ length s = leb-true (head_size s + size_in s) (length s) z.1 in
    let own = own_part s marked in
    let own_size : length (element_in s).bytes ≡ size_in s =
    rw own (length-take-le (size_in s) (drop (head_size s) s) (omega (arith, length-drop (head_size s) s))) in
    let size : length (element_bytes (element_in s)) ≡ head_size s + size_in s =
    length-append (head_bytes (element_in s).index (length (element_in s).bytes)) (element_in s).bytes
    ∙ rw (
      head_length (element_in s).index (length (element_in s).bytes),
      own_size,
      index_part s,
      index_mark (mark_in s) (big_endian 8 (drop 1 s)) marked,
    ) in
    record {
      size = size;
      own = own;
      own_size = own_size;
      index = index_part s;
      short = leb-true (size_in s) max_data_bytes z.0;
      within = within;
      marked = marked;
    }

-- ---- n elements at the front of bytes

pub elements_count : (n : ℕ) (s : List ℕ) → length (elements_in n s) ≡ n
unfolding elements_in
elements_count zero s = refl
elements_count (suc n) s = ap suc (elements_count n (drop (length (element_bytes (element_in s))) s))

-- the elements behind the first stand where the reader looks
pub elements_more : (n : ℕ) (s : List ℕ) → laid_out s ≡ true
    → elements_in (suc n) s ≡ element_in s ∷ elements_in n (drop (head_size s + size_in s) s)
unfolding elements_in
elements_more n s e = rw (element_laid s e).size

pub data_size_lem : (n : ℕ) (s : List ℕ) → all_laid_out n s ≡ true → data_size n s ≡ length (joined_data (elements_in n s))
unfolding all_laid_out data_size elements_in joined_data
data_size_lem zero s e = refl
data_size_lem (suc n) s e =
    let h = both (laid_out s) e in
    let f = element_laid s h.0 in
    rw (
      f.size,
      length-append (element_in s).bytes (joined_data (elements_in n (drop (head_size s + size_in s) s))),
      f.own_size,
      data_size_lem n (drop (head_size s + size_in s) s) h.1,
    )

pub layout_size_lem : (n : ℕ) (s : List ℕ) → all_laid_out n s ≡ true → layout_size n s ≡ length (elements_bytes (elements_in n s))
unfolding all_laid_out layout_size elements_in elements_bytes
layout_size_lem zero s e = refl
layout_size_lem (suc n) s e =
    let h = both (laid_out s) e in
    rw (
      length-append (element_bytes (element_in s)) (elements_bytes (elements_in n (drop (length (element_bytes (element_in s))) s))),
      (element_laid s h.0).size,
      layout_size_lem n (drop (head_size s + size_in s) s) h.1,
    )

pub layout_within : (n : ℕ) (s : List ℕ) → all_laid_out n s ≡ true → layout_size n s ≤ length s
unfolding all_laid_out layout_size
layout_within zero s e = omega arith
layout_within (suc n) s e =
    let h = both (laid_out s) e in
    let f = element_laid s h.0 in
    let r = layout_within n (drop (head_size s + size_in s) s) h.1 in
    omega (arith, length-drop (head_size s + size_in s) s)

-- ---- what is found, written again, is what stands there

head_again : (s : List ℕ) → Bytes s → mark_in s ≤ 1 → head_size s ≤ length s → head_bytes (element_in s).index (size_in s) ≡ take (head_size s) s
head_again [] B m l = absurd (omega arith)
head_again (k ∷ r) B m l =
    let D = bytes_drop 1 (k ∷ r) B in
    let q : 5 + 8 * k ≡ suc (8 * k + 4) = omega arith in
    rw (
      index_part (k ∷ r),
      index_mark k (big_endian 8 r) m,
      index_again k r D m (omega arith),
      bytes_again 4 (drop (1 + 8 * k) (k ∷ r)) (bytes_drop (1 + 8 * k) (k ∷ r) B) (omega (arith, length-drop (1 + 8 * k) (k ∷ r))),
      ← drop-drop (8 * k) 1 (k ∷ r),
      q,
      take-add (8 * k) 4 r,
    )

pub element_again : (s : List ℕ) → Bytes s → laid_out s ≡ true → element_bytes (element_in s) ≡ take (head_size s + size_in s) s
unfolding element_bytes
element_again s B e =
    let f = element_laid s e in
    ap (λ (n : ℕ). head_bytes (element_in s).index n ++ (element_in s).bytes) f.own_size
    ∙ ap (λ (head : List ℕ). head ++ (element_in s).bytes) (head_again s B f.marked (omega arith))
    ∙ rw f.own (sym (take-add (head_size s) (size_in s) s))

pub elements_sound : (n : ℕ) (s : List ℕ) → Bytes s → all_laid_out n s ≡ true → s ≡ elements_bytes (elements_in n s) ++ drop (layout_size n s) s
unfolding all_laid_out layout_size elements_in elements_bytes
elements_sound zero s B e = refl
elements_sound (suc n) s B e =
    let h = both (laid_out s) e in
    let at : ℕ = head_size s + size_in s in
    rw (
      (element_laid s h.0).size,
      append_assoc (element_bytes (element_in s)) (elements_bytes (elements_in n (drop at s))) (drop (at + layout_size n (drop at s)) s),
      ← drop-drop (layout_size n (drop at s)) at s,
      ← elements_sound n (drop at s) (bytes_drop at s B) h.1,
      element_again s B h.0,
    ) (sym (take-append-drop at s))

-- ---- what was written is found

index_found : (o : Option ℕ) (r : List ℕ) → number_of o < 2 ^ 64 → index_of (mark_of o) (big_endian 8 (index_bytes o ++ r)) ≡ o
index_found none r h = refl
index_found (some v) r h = ap some (number_found 8 v r h)

same_element_lem : {b c : List ℕ} {o p : Option ℕ} → b ≡ c → o ≡ p
    → ◌≡◌ {A = Element} (record { bytes = b; index = o }) (record { bytes = c; index = p })
same_element_lem B I = rw (B, I)

module _ (e : Element) (r : List ℕ) (fits : ElementFits e) where
  abbrev front : List ℕ
  front = mark_of e.index ∷ (index_bytes e.index ++ (bytes_of 4 (length e.bytes) ++ (e.bytes ++ r)))

  front_is : element_bytes e ++ r ≡ front
  unfolding element_bytes
  front_is = simp append_assoc

  size_found : size_in front ≡ length e.bytes
  size_found =
      rw
      (drop_at (mark_of e.index ∷ index_bytes e.index) (bytes_of 4 (length e.bytes) ++ (e.bytes ++ r)) (1 + 8 * mark_of e.index)
      (omega (arith, index_length e.index)))
      (number_found 4 (length e.bytes) (e.bytes ++ r) (omega (arith, fits.0)))

  own_found : take (length e.bytes) (drop (head_size front) front) ≡ e.bytes
  own_found =
      let head = mark_of e.index ∷ (index_bytes e.index ++ bytes_of 4 (length e.bytes)) in
      let l : length head ≡ head_size front = head_length e.index (length e.bytes) in
      rw (
        ← append_assoc (index_bytes e.index) (bytes_of 4 (length e.bytes)) (e.bytes ++ r),
        drop_at head (e.bytes ++ r) (head_size front) l,
      )
      (take_at e.bytes r (length e.bytes) refl)

  front_length : length front ≡ head_size front + length e.bytes + length r
  front_length =
      simp (length-append, length_bytes_of, index_length) (omega arith)

  pub laid_found : laid_out (element_bytes e ++ r) ≡ true
  unfolding laid_out
  laid_found =
      let l = front_length in
      let m = marked_one e.index in
      rw (
        front_is,
        size_found,
        le-leb 5 (length front) (omega arith),
        le-leb (mark_of e.index) 1 m,
        le-leb (head_size front) (length front) (omega arith),
        le-leb (length e.bytes) max_data_bytes fits.0,
        le-leb (head_size front + length e.bytes) (length front) (omega arith),
      )

  pub element_found : element_in (element_bytes e ++ r) ≡ e
  element_found =
      rw front_is
      (same_element_lem
      (own_part front (marked_one e.index) ∙ rw size_found own_found)
      (index_part front ∙ index_found e.index (bytes_of 4 (length e.bytes) ++ (e.bytes ++ r)) fits.1))

-- so many elements are laid out, and they are the ones written
pub record ElementsFound (es : List Element) (s : List ℕ) : Type 0 where
  pub laid : all_laid_out (length es) s ≡ true
  pub same : elements_in (length es) s ≡ es

pub elements_complete : (es : List Element) (z : List ℕ) → Each ElementFits es → ElementsFound es (elements_bytes es ++ z)
unfolding Each all_laid_out elements_in elements_bytes
elements_complete [] z fits = record { laid = refl; same = refl }
elements_complete (e ∷ es) z fits =
    let r : List ℕ = elements_bytes es ++ z in
    let rest = elements_complete es z fits.1 in
    let L = laid_found e r fits.0 in
    let E = element_found e r fits.0 in
    let behind : drop (length (element_bytes e)) (element_bytes e ++ r) ≡ r = drop_at (element_bytes e) r (length (element_bytes e)) refl in
    rw (append_assoc (element_bytes e) (elements_bytes es) z)
    record {
      laid = rw (L, ← (element_laid (element_bytes e ++ r) L).size, E, behind) rest.laid;
      same = rw (E, behind, rest.same);
    }
