-- Elements as bytes: parts that are put one behind the other, the bytes that elements take, and one element more behind those that are
-- written.
use Rattle.std.proofs.Common.{◌≡◌, ℕ, ◌+◌, ◌*◌, ◌<◌, ◌≤◌, List, [], ◌∷◌, ◌++◌, length, take, drop, sym, refl, ap, ◌∙◌, append_assoc, append-nil, add-one, arith, length-append, length-drop, length-take-le, take-append-drop, take-suc, drop-drop}
use mathlib.Core.Option.{none}
use borrow.Rule.Slice.PartMut.{put_mid}
use Rattle.sampling.specs.core.BigEndian.{bytes_of}
use Rattle.sampling.specs.laws.BigEndianLaws.{length_bytes_of}
use Rattle.centralized_telescope.specs.core.Elements.{Element, element_at, elements, list_check, Lent, max_data_bytes}
use Rattle.centralized_telescope.specs.core.Lists.{over}
use Rattle.centralized_telescope.specs.later.Words.{mark_of}
use Rattle.centralized_telescope.specs.later.ElementBytes.{element_bytes, elements_bytes, max_head_bytes}
use Rattle.centralized_telescope.specs.inner.Gathering.{Put, mark_bytes}
use Rattle.centralized_telescope.specs.laws.ElementsLaws.{data_there, length_elements, data_short}
use Rattle.centralized_telescope.specs.laws.ElementBytesLaws.{index_length, length_element, marked_one}
use Rattle.centralized_telescope.proofs.ProofWriting.{over_append}

-- ---- the bytes that elements take

elements_append : (es fs : List Element) → elements_bytes (es ++ fs) ≡ elements_bytes es ++ elements_bytes fs
unfolding elements_bytes
elements_append [] fs = refl
elements_append (e ∷ es) fs = rw (elements_append es fs, append_assoc)

pub no_bytes : elements_bytes [] ≡ []
unfolding elements_bytes
no_bytes = refl

one_element_lem : (e : Element) → elements_bytes (e ∷ []) ≡ element_bytes e
unfolding elements_bytes
one_element_lem e = append-nil (element_bytes e)

module _ (es : List Element) (i : ℕ) (h : i < length es) where
  pub bytes_more : elements_bytes (take (i + 1) es) ≡ elements_bytes (take i es) ++ element_bytes (element_at es i)
  unfolding element_at
  bytes_more = rw (add-one, take-suc es i (record { bytes = []; index = none }) h, elements_append, one_element_lem)

  -- those of one element more are within those of all
  pub bytes_within : length (elements_bytes (take i es)) + length (element_bytes (element_at es i)) ≤ length (elements_bytes es)
  bytes_within =
      let f = take (i + 1) es in
      let b = drop (i + 1) es in
      omega (
        arith,
        ap (λ (l : List Element). length (elements_bytes l)) (take-append-drop (i + 1) es),
        ap length (elements_append f b),
        length-append (elements_bytes f) (elements_bytes b),
        ap length bytes_more,
        length-append (elements_bytes (take i es)) (element_bytes (element_at es i)),
      )

-- ---- bytes behind those that are written

-- a copy behind w
pub put : (w y was : List ℕ) (used : ℕ) (out out' : List ℕ) → used ≡ length w → out ≡ over w was
    → out' ≡ take used out ++ (y ++ drop (used + length y) out) → out' ≡ over (w ++ y) was
put w y was used out out' U E C = C ∙ rw (E, U) (over_append w y was)

-- two parts, one behind the other
pub puts : (a b : List ℕ) (from to end : ℕ) (out out₁ out₂ : List ℕ) → from ≤ length out → Put a from out out₁ to → Put b to out₁ out₂ end
    → Put (a ++ b) from out out₂ end
puts a b from to end out out₁ out₂ l P Q =
    let w : List ℕ = take from out in
    let front : length w ≡ from = length-take-le from out l in
    let base : out ≡ over w out = rw front (sym (take-append-drop from out)) in
    let one = put w a out from out out₁ (sym front) base P.written in
    let two = put (w ++ a) b out to out₁ out₂ (omega (arith, P.behind, length-append w a, front)) one Q.written in
    let ends : length ((w ++ a) ++ b) ≡ from + length (a ++ b) =
    omega (arith, length-append (w ++ a) b, length-append w a, length-append a b, front) in
    record {
      behind = omega (arith, P.behind, Q.behind, length-append a b);
      written = two ∙ rw (ends, append_assoc w a b, append_assoc w (a ++ b) (drop (from + length (a ++ b)) out));
    }

-- a number in a part of the buffer
pub number_put : (v size at n : ℕ) (out w : List ℕ) → at + size ≤ length out → n ≡ size → w ≡ bytes_of (length (take n (drop at out))) v
    → Put (bytes_of size v) at out (put_mid at n out w) (at + size)
number_put v size at n out w l N W =
    let k : length (take n (drop at out)) ≡ size = length-take-le n (drop at out) (omega (arith, length-drop at out)) ∙ N in
    record {
      behind = omega (arith, length_bytes_of size v);
      written = rw (W, k, N, length_bytes_of size v, drop-drop size at out) refl;
    }

-- ---- the parts of an element

module _ (e : Element) where
  pub element_parts : element_bytes e ≡ (mark_bytes e.index ++ bytes_of 4 (length e.bytes)) ++ e.bytes
  unfolding element_bytes
  element_parts = refl

  pub parts_room : length (element_bytes e) ≡ length (mark_bytes e.index) + 4 + length e.bytes
  parts_room = omega (arith, length_element e, index_length e.index)

  pub size_is : (head : ℕ) → head ≡ 5 + 8 * mark_of e.index → head + length e.bytes ≡ length (element_bytes e)
  size_is head H = omega (arith, H, length_element e)

-- ---- one element of an accepted list

module _ (lent : Lent) (A : list_check lent ≡ 0) (i : ℕ) (h : i < length lent.ends) where
  abbrev all : List Element
  all = elements lent

  in_all : i < length all
  in_all = omega (arith, length_elements lent A)

  pub size_most : length (element_bytes (element_at all i)) ≤ max_head_bytes + max_data_bytes
  size_most =
      omega (
        arith,
        length_element (element_at all i),
        marked_one (element_at all i).index,
        ap length (data_there lent A i h),
        data_short lent A i h,
      )

  pub size_more : length (elements_bytes (take (i + 1) all)) ≡ length (elements_bytes (take i all)) + length (element_bytes (element_at all i))
  size_more = ap length (bytes_more all i in_all) ∙ length-append (elements_bytes (take i all)) (element_bytes (element_at all i))

  -- behind the elements before, which stand behind w
  module _ (w : List ℕ) where
    abbrev before : List ℕ
    before = w ++ elements_bytes (take i all)

    pub behind : before ++ element_bytes (element_at all i) ≡ w ++ elements_bytes (take (i + 1) all)
    behind = rw (bytes_more all i in_all, append_assoc w (elements_bytes (take i all)))

    pub behind_within : length before + length (element_bytes (element_at all i)) ≤ length w + length (elements_bytes all)
    behind_within = omega (arith, length-append w (elements_bytes (take i all)), bytes_within all i in_all)

    module _ (was out after : List ℕ) (used to : ℕ) (U : used ≡ length before) (P : Put (element_bytes (element_at all i)) used out after to) where
      pub used_more : to ≡ length (w ++ elements_bytes (take (i + 1) all))
      used_more = omega (arith, P.behind, length-append before (element_bytes (element_at all i)), ap length behind)

      pub element_put : out ≡ over before was → after ≡ over (w ++ elements_bytes (take (i + 1) all)) was
      element_put B = put before (element_bytes (element_at all i)) was used out after U B P.written ∙ ap (λ (l : List ℕ). over l was) behind
