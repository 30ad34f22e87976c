-- Laws of lists written out: what `write_proof` writes is accepted as a list, and its elements are those at the places.
use Rattle.std.specs.Prelude.{◌≡◌, ℕ, suc, ◌+◌, ◌-◌, ◌<◌, ◌≤◌, Bool, true, false, cond, ◌||◌, leb, List, [], ◌∷◌, ◌++◌, map, length, take, drop, ◌==◌, nat_le, nat_lt, slice_index}
use Rattle.std.proofs.Math.Path.{refl}
use Rattle.std.proofs.Common.{sym, ap, ◌∙◌, append_assoc, arith, length-append, take_at, drop_at}
use Rattle.std.proofs.Math.Option.{Option, none, some}
use borrow.Author.Tests.{eq-eqb, eqb-true, leb-false, le-ltb, ltb-false}
use Rattle.std.proofs.lemmas.List.{length-map}
use Rattle.sampling.specs.core.FirstNumber.{first_number}
use Rattle.centralized_telescope.specs.laws.TestLaws.{neither, unsaid}
use Rattle.centralized_telescope.specs.core.Elements.{Element, elements_from, elements, element_at, mark_over, end_wrong, malformed}
use Rattle.centralized_telescope.specs.core.Elements.{data_long, too_large, list_check, Lent, max_data_bytes, max_elements}
use Rattle.centralized_telescope.specs.later.Words.{mark_of, number_of}
use Rattle.centralized_telescope.specs.laws.ElementsLaws.{index_again, bytes_short}
use Rattle.centralized_telescope.specs.core.Lists.{Each, some_of}
use Rattle.centralized_telescope.specs.laws.ListsLaws.{take_over, none_at, each_nil, each_cons}
use Rattle.sampling.specs.laws.FirstNumberLaws.{number_none}
use Rattle.centralized_telescope.specs.later.ProofList.{joined_data, ends_from, marks_of, indexes_of, chosen, place_out, ProofList}
use Rattle.centralized_telescope.specs.later.ProofList.{list_over, ProofListed}
use Rattle.centralized_telescope.specs.later.ProofList.{write_refusal, proof_list, list_of, over_all, front_of, with_buffers}

-- ---- a list written out is accepted

pub length_ends : (from : ℕ) (es : List Element) → length (ends_from from es) ≡ length es
unfolding ends_from
length_ends from [] = refl
length_ends from (e ∷ es) = ap suc (length_ends (from + length e.bytes) es)

marks_right : (es : List Element) → mark_over (marks_of es) ≡ false
unfolding some_of
marks_right [] = refl
marks_right (e ∷ es) = go e.index (marks_right es)
  where
    go : (o : Option ℕ) {t : Bool} → t ≡ false → nat_lt 1 (mark_of o) || t ≡ false
    go none r = r
    go (some n) r = r

ends_rise : (from limit : ℕ) (es : List Element) → from + length (joined_data es) ≤ limit → end_wrong from limit (ends_from from es) ≡ false
unfolding end_wrong ends_from joined_data
ends_rise from limit [] h = refl
ends_rise from limit (e ∷ es) h =
    let l : from + (length e.bytes + length (joined_data es)) ≤ limit = omega (arith, length-append e.bytes (joined_data es)) in
    rw (le-ltb (from + length e.bytes) from (omega arith), le-ltb limit (from + length e.bytes) (omega arith))
    (ends_rise (from + length e.bytes) limit es (omega arith))

-- an element with no more data than a list may have in one
abbrev pub Short : Element → Type 0
Short e = length e.bytes ≤ max_data_bytes

none_long : (from : ℕ) (es : List Element) → Each Short es → data_long from (ends_from from es) ≡ false
unfolding data_long ends_from Each
none_long from [] s = refl
none_long from (e ∷ es) s =
    rw (le-ltb max_data_bytes (from + length e.bytes - from) (omega (arith, s.0))) (none_long (from + length e.bytes) es s.1)

pub accepted_again : (es : List Element) → length es ≤ max_elements → Each Short es
    → list_check (list_of es) ≡ 0
unfolding first_number list_check malformed too_large
accepted_again es few s =
    let N = length_ends 0 es in
    let M = length-map es (λ (e : Element). mark_of e.index) in
    let X = length-map es (λ (e : Element). number_of e.index) in
    rw (
      eq-eqb (length (ends_from 0 es)) (length (marks_of es)) (N ∙ sym M),
      eq-eqb (length (ends_from 0 es)) (length (indexes_of es)) (N ∙ sym X),
      marks_right es,
      ends_rise 0 (length (joined_data es)) es (omega arith),
      le-ltb max_elements (length (ends_from 0 es)) (omega arith),
      none_long 0 es s,
    )

-- ---- and means the same elements

own_bytes : (before own rest : List ℕ)
    → take (length before + length own - length before) (drop (length before) (before ++ (own ++ rest))) ≡ own
own_bytes before own rest =
    rw (drop_at before (own ++ rest) (length before) refl) (take_at own rest (length before + length own - length before) (omega arith))

elements_from_lem : (before : List ℕ) (es : List Element)
    → elements_from (length before) (before ++ joined_data es) (ends_from (length before) es) (marks_of es) (indexes_of es) ≡ es
unfolding elements_from ends_from joined_data
elements_from_lem before [] = refl
elements_from_lem before (e ∷ es) =
    ap {B = List Element}
    (λ (k : Element). k ∷ elements_from (length before + length e.bytes) (before ++ (e.bytes ++ joined_data es))
    (ends_from (length before + length e.bytes) es) (marks_of es) (indexes_of es))
    (first (own_bytes before e.bytes (joined_data es)) (index_again e.index))
    ∙ ap (λ (l : List Element). e ∷ l)
    (rw (← append_assoc before e.bytes (joined_data es), ← length-append before e.bytes) (elements_from_lem (before ++ e.bytes) es))
  where
    first : {b : List ℕ} {o : Option ℕ} → b ≡ e.bytes → o ≡ e.index → ◌≡◌ {A = Element} (record { bytes = b; index = o }) e
    first B I = rw (B, I)

pub elements_again : (es : List Element) → elements (list_of es) ≡ es
elements_again es = elements_from_lem [] es

-- ---- the elements at some places of an accepted list

place_head : (len place : ℕ) {t : Bool} → nat_le len place || t ≡ false → (place < len) × (t ≡ false)
place_head len place e = let h = neither (nat_le len place) e in (leb-false len place h.0, h.1)

pub place_within : (len : ℕ) (places : List ℕ) (i : ℕ) → i < length places → place_out len places ≡ false → slice_index places i < len
place_within len places i h e = leb-false len (slice_index places i) (none_at (leb len) places i 0 h e)

module _ (lent : Lent) (A : list_check lent ≡ 0) where
  open lent use {bytes as d, ends as n}

  pub chosen_short : (places : List ℕ) → place_out (length n) places ≡ false → Each Short (chosen places lent)
  unfolding some_of
  chosen_short [] e = each_nil Short
  chosen_short (place ∷ places) e =
      let p = place_head (length n) place e in
      each_cons Short (element_at (elements lent) place) (chosen places lent) (bytes_short lent A place p.0) (chosen_short places p.1)

-- ---- elements over buffers, and what the buffers begin with then

pub front_over : (es : List Element) (buffers : Lent) (k : ℕ) → length es ≡ k
    → front_of (length (joined_data es)) k (over_all (list_of es) buffers) ≡ list_of es
front_over es buffers k e =
    rw (
      take_over (length (joined_data es)) (joined_data es) buffers.bytes refl,
      take_over k (ends_from 0 es) buffers.ends (length_ends 0 es ∙ e),
      take_over k (marks_of es) buffers.marks (length-map es (λ (a : Element). mark_of a.index) ∙ e),
      take_over k (indexes_of es) buffers.indexes (length-map es (λ (a : Element). number_of a.index) ∙ e),
    )

-- ---- what `write_proof` writes

module _ (places : List ℕ) (lent : Lent) (buffers : Lent) where
  open lent use {ends as n}

  abbrev r : ProofList
  r = proof_list places lent buffers

  abbrev es : List Element
  es = chosen places lent

  number_refusal : r.number ≡ 0 → write_refusal places lent buffers ≡ 0
  unfolding proof_list list_over
  number_refusal = go (refusal == 0) refl
    where
      refusal : ℕ
      refusal = write_refusal places lent buffers

      go : (t : Bool) → (refusal == 0) ≡ t
          → (cond t (list_over (chosen places lent) buffers)
          (with_buffers refusal 0 buffers)).number ≡ 0 → refusal ≡ 0
      go true e h = eqb-true refusal 0 e
      go false e h = h

  module _ (W : r.number ≡ 0) where
    is_written : r ≡ list_over (chosen places lent) buffers
    unfolding proof_list
    is_written = rw (eq-eqb (write_refusal places lent buffers) 0 (number_refusal W))

    refusals : (list_check lent ≡ 0) × (length places ≤ max_elements) × (place_out (length n) places ≡ false)
    unfolding write_refusal
    refusals =
        let l = number_none _ _ (number_refusal W) in
        let p = number_none _ _ l.1 in
        let f = number_none _ _ p.1 in
        let few = ltb-false max_elements (length places) (unsaid (nat_lt max_elements (length places)) 4 f.0) in
        (l.0, few, unsaid (place_out (length n) places) 3 p.0)

    -- the list that a caller hands on
    abbrev own : Lent
    own = front_of r.len (length places) r.buffers

    own_is : own ≡ list_of es
    unfolding list_over
    own_is = rw is_written (front_over es buffers (length places) (length-map places (element_at (elements lent))))

    pub written_accepted : list_check own ≡ 0
    written_accepted =
        rw own_is
        (accepted_again es (omega (arith, refusals.1, length-map places (element_at (elements lent))))
        (chosen_short lent refusals.0 places refusals.2))

    pub written_elements : elements own ≡ map (element_at (elements lent)) places
    written_elements = ap elements own_is ∙ elements_again es

pub proof_listed : ProofListed
proof_listed places lent buffers W = (written_accepted places lent buffers W, written_elements places lent buffers W)
