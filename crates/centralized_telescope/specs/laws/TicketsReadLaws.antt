-- Laws of what is a ticket: it is read as it was written, the yes or no is right, and the reader's tests decide it.
use Rattle.std.specs.Prelude.{◌≡◌, ℕ, zero, suc, ◌+◌, ◌-◌, ◌*◌, ◌/◌, ◌^◌, ◌<◌, ◌≤◌, Bool, true, false, cond, not, ltb, List, [], ◌∷◌, ◌++◌, length, drop, replicate, ◌==◌, ◌≢◌, nat_le, nat_lt, slice_index, refl}
use Rattle.std.proofs.Common.{sym, ap, ◌∙◌, subst, arith, length-append, length-drop, take-append-drop, drop_at}
use mathlib.Core.List.{append_assoc}
use Rattle.std.proofs.Math.Option.{none, some}
use borrow.Author.Tests.{leb-true, le-leb, ltb-false, lt-ltb, le-ltb, not-true}
use Rattle.std.proofs.lemmas.List.{length-replicate}
use Rattle.std.proofs.Math.Seq.{drop-drop}
use Rattle.sampling.specs.core.BigEndian.{big_endian, bytes_of}
use Rattle.sampling.specs.laws.BigEndianLaws.{length_bytes_of, big_endian_append}
use Rattle.centralized_telescope.specs.laws.TestLaws.{not_both, refuted, neither, both}
use Rattle.centralized_telescope.specs.laws.BytesLaws.{Bytes, bytes_drop, big_endian_below, bytes_again, number_front, number_found}
use Rattle.centralized_telescope.specs.laws.DistinctLaws.{bytes_same, same_bytes_lem}
use Rattle.centralized_telescope.specs.laws.ProofListLaws.{Short}
use Rattle.centralized_telescope.specs.laws.BlocksLaws.{length_bodies, bodies_bytes, sealed_bodies, length_blocks, count_blocks}
use Rattle.centralized_telescope.specs.laws.BlocksLaws.{bodies_blocks, undamaged}
use Rattle.centralized_telescope.specs.laws.ElementBytesLaws.{elements_most}
use Rattle.centralized_telescope.specs.laws.TicketsLaws.{element_laid, elements_count, layout_size_lem, layout_within, elements_sound}
use Rattle.centralized_telescope.specs.laws.TicketsLaws.{elements_complete}
use Rattle.centralized_telescope.specs.core.Lists.{Each, some_of}
use Rattle.centralized_telescope.specs.core.Elements.{Element, index_of, max_data_bytes, max_elements}
use Rattle.centralized_telescope.specs.later.Words.{number_of}
use Rattle.centralized_telescope.specs.later.Blocks.{block_count, filled, sealed, blocks, bodies, bodies_of, damaged, block_bytes}
use Rattle.centralized_telescope.specs.later.Blocks.{body_bytes, max_filling}
use Rattle.centralized_telescope.specs.later.ElementBytes.{element_bytes, elements_bytes}
use Rattle.centralized_telescope.specs.later.Tickets.{content, ticket, ElementFits, ProofFits, blocks_in, retry_in, search_in, count_in}
use Rattle.centralized_telescope.specs.later.Tickets.{element_in, elements_in, proof_in, over_limits, is_ticket, elements_part}
use Rattle.centralized_telescope.specs.later.Tickets.{ticket_head_bytes}
use Rattle.centralized_telescope.specs.inner.TicketReading.{head_size, size_in, laid_out, all_laid_out, layout_size, filling_right}

-- ---- filling

zeros_right : (k : ℕ) → some_of (ltb 0) (replicate k 0) ≡ false
unfolding some_of
zeros_right zero = refl
zeros_right (suc k) = zeros_right k

all_zeros : (z : List ℕ) → some_of (ltb 0) z ≡ false → z ≡ replicate (length z) 0
unfolding some_of
all_zeros [] e = refl
all_zeros (x ∷ z) e =
    let h = neither (nat_lt 0 x) e in
    let q = ltb-false 0 x h.0 in
    let i : x ≡ 0 = omega arith in
    rw (i, ← all_zeros z h.1)

-- a string with less than a body of zeros behind it, so many bodies in all, is filled
filled_is : (s z : List ℕ) (n : ℕ) → z ≡ replicate (length z) 0 → length z ≤ max_filling → length (s ++ z) ≡ body_bytes * n
    → blocks s ≡ sealed n (s ++ z)
unfolding blocks filled
filled_is s z n e l h =
    let k = length-append s z in
    let c : block_count (length s) ≡ n = omega arith in
    let f : body_bytes * n - length s ≡ length z = omega arith in
    rw (c, f, ← e)

-- ---- the number of blocks, R, S and the number of elements before the elements

pub content_length : (R S : ℕ) (es : List Element) → length (content R S es) ≡ ticket_head_bytes + length (elements_bytes es)
unfolding content
content_length R S es = simp (length-append, length_bytes_of) (omega arith)

-- what is found at the front of b, if that begins with the content of a proof
record FrontIs (R S : ℕ) (es : List Element) (z b : List ℕ) : Type 0 where
  retry : retry_in b ≡ R
  search : search_in b ≡ S
  count : count_in b ≡ length es
  behind : elements_part b ≡ elements_bytes es ++ z

front_is : (R S : ℕ) (es : List Element) (z : List ℕ) → ProofFits R S es → FrontIs R S es z (content R S es ++ z)
unfolding content
front_is R S es z fits =
    let n : List ℕ = bytes_of 4 (block_count (ticket_head_bytes + length (elements_bytes es))) in
    let r : List ℕ = bytes_of 8 R in
    let s : List ℕ = bytes_of 8 S in
    let c : List ℕ = bytes_of 4 (length es) in
    let behind : List ℕ = elements_bytes es ++ z in
    let all : List ℕ = n ++ (r ++ (s ++ (c ++ behind))) in
    let few = fits.few in
    let four : drop 4 all ≡ r ++ (s ++ (c ++ behind)) =
    drop_at n (r ++ (s ++ (c ++ behind))) 4 (length_bytes_of 4 (block_count (ticket_head_bytes + length (elements_bytes es)))) in
    let twelve : drop 12 all ≡ s ++ (c ++ behind) =
    sym (drop-drop 8 4 all) ∙ rw four (drop_at r (s ++ (c ++ behind)) 8 (length_bytes_of 8 R)) in
    let twenty : drop 20 all ≡ c ++ behind = sym (drop-drop 8 12 all) ∙ rw twelve (drop_at s (c ++ behind) 8 (length_bytes_of 8 S)) in
    let last : elements_part all ≡ behind = sym (drop-drop 4 20 all) ∙ rw twenty (drop_at c behind 4 (length_bytes_of 4 (length es))) in
    let whole : (n ++ (r ++ (s ++ (c ++ elements_bytes es)))) ++ z ≡ all = simp append_assoc in
    rw whole
    record {
      retry = rw four (number_found 8 R (s ++ (c ++ behind)) fits.retry);
      search = rw twelve (number_found 8 S (c ++ behind) fits.search);
      count = rw twenty (number_found 4 (length es) behind (omega arith));
      behind = last;
    }

front_again : (b : List ℕ) → Bytes b → ticket_head_bytes ≤ length b
    → b ≡ bytes_of 4 (blocks_in b) ++ (bytes_of 8 (retry_in b) ++ (bytes_of 8 (search_in b) ++ (bytes_of 4 (count_in b) ++ elements_part b)))
front_again b B l =
    rw (
      bytes_again 4 b B (omega arith),
      bytes_again 8 (drop 4 b) (bytes_drop 4 b B) (omega (arith, length-drop 4 b)),
      bytes_again 8 (drop 12 b) (bytes_drop 12 b B) (omega (arith, length-drop 12 b)),
      bytes_again 4 (drop 20 b) (bytes_drop 20 b B) (omega (arith, length-drop 20 b)),
      ← drop-drop 4 20 b,
      take-append-drop 4 (drop 20 b),
      ← drop-drop 8 12 b,
      take-append-drop 8 (drop 12 b),
      ← drop-drop 8 4 b,
      take-append-drop 8 (drop 4 b),
      take-append-drop 4 b,
    )

-- ---- a ticket is read as it was written

pub record ReadsAs (R S : ℕ) (es : List Element) (b : List ℕ) : Type 0 where
  pub retry : retry_in b ≡ R
  pub search : search_in b ≡ S
  pub count : count_in b ≡ length es
  pub laid : all_laid_out (count_in b) (elements_part b) ≡ true
  pub proof : proof_in b ≡ es
  pub filling : filling_right (drop (ticket_head_bytes + layout_size (count_in b) (elements_part b)) b) ≡ true

pub ticket_reads : (R S : ℕ) (es : List Element) → ProofFits R S es → ReadsAs R S es (bodies_of (ticket R S es))
unfolding ticket filled filling_right
ticket_reads R S es fits =
    let s : List ℕ = content R S es in
    let k : ℕ = body_bytes * block_count (length s) - length s in
    let z : List ℕ = replicate k 0 in
    let f = front_is R S es z fits in
    let e = elements_complete es z fits.each in
    let size : layout_size (length es) (elements_bytes es ++ z) ≡ length (elements_bytes es) =
    layout_size_lem (length es) (elements_bytes es ++ z) e.laid ∙ rw e.same in
    let behind : drop (ticket_head_bytes + length (elements_bytes es)) (s ++ z) ≡ z =
    drop_at s z (ticket_head_bytes + length (elements_bytes es)) (content_length R S es) in
    let lz : length z ≡ k = length-replicate {A = ℕ} k 0 in
    rw (bodies_blocks s)
    record {
      retry = f.retry;
      search = f.search;
      count = f.count;
      laid = rw (f.count, f.behind) e.laid;
      proof = rw (f.count, f.behind) e.same;
      filling = rw (f.count, f.behind, size, behind, zeros_right k, le-leb (length z) max_filling (omega arith));
    }

-- ---- whether bytes are a ticket

pub ticket_length : (R S : ℕ) (es : List Element) → block_bytes ≤ length (ticket R S es)
unfolding ticket
ticket_length R S es = omega (arith, length_blocks (content R S es), content_length R S es)

pub none_over : (es : List Element) → Each ElementFits es → some_of (λ (e : Element). ltb max_data_bytes (length e.bytes)) es ≡ false
unfolding some_of Each
none_over [] fits = refl
none_over (e ∷ es) fits = rw (le-ltb max_data_bytes (length e.bytes) fits.0.0) (none_over es fits.1)

pub none_long_short : (es : List Element) → some_of (λ (e : Element). ltb max_data_bytes (length e.bytes)) es ≡ false → Each Short es
unfolding Each some_of
none_long_short [] h = tt
none_long_short (e ∷ es) h =
    let k = neither (nat_lt max_data_bytes (length e.bytes)) h in
    (ltb-false max_data_bytes (length e.bytes) k.0, none_long_short es k.1)

pub is_ticket_lem : (R S : ℕ) (es : List Element) → ProofFits R S es → is_ticket (ticket R S es) ≡ true
unfolding is_ticket
is_ticket_lem R S es fits =
    let r = ticket_reads R S es fits in
    rw (r.proof, le-ltb max_elements (length es) fits.few, none_over es fits.each, r.retry, r.search, bytes_same (ticket R S es))

pub number_small : (m v k : ℕ) → v < k → number_of (index_of m v) < k
number_small m v k h = go (m == 1)
  where
    go : (t : Bool) → number_of (cond t (some v) none) < k
    go true = h
    go false = omega arith

element_fits : (s : List ℕ) → Bytes s → length (element_in s).bytes ≤ max_data_bytes → ElementFits (element_in s)
unfolding element_in
element_fits s B h = (h, number_small (slice_index s 0) (big_endian 8 (drop 1 s)) (2 ^ 64) (big_endian_below 8 (drop 1 s) (bytes_drop 1 s B)))

elements_fit : (n : ℕ) (s : List ℕ) → Bytes s → some_of (λ (e : Element). ltb max_data_bytes (length e.bytes)) (elements_in n s) ≡ false
    → Each ElementFits (elements_in n s)
unfolding some_of Each elements_in
elements_fit zero s B e = tt
elements_fit (suc n) s B e =
    let h = neither (nat_lt max_data_bytes (length (element_in s).bytes)) e in (
      element_fits s B (ltb-false max_data_bytes (length (element_in s).bytes) h.0),
      elements_fit n (drop (length (element_bytes (element_in s))) s) (bytes_drop (length (element_bytes (element_in s))) s B) h.1,
    )

-- what the yes says of any numbers
pub record Said (t : List ℕ) : Type 0 where
  pub few : length (proof_in (bodies_of t)) ≤ max_elements
  pub none_long : some_of (λ (e : Element). ltb max_data_bytes (length e.bytes)) (proof_in (bodies_of t)) ≡ false
  pub same : t ≡ ticket (retry_in (bodies_of t)) (search_in (bodies_of t)) (proof_in (bodies_of t))

pub ticket_said : (t : List ℕ) → is_ticket t ≡ true → Said t
unfolding is_ticket
ticket_said t e =
    let b : List ℕ = bodies_of t in
    let h = both (not (over_limits (proof_in b))) e in
    let l = neither (nat_lt max_elements (length (proof_in b))) (not-true (over_limits (proof_in b)) h.0) in
    record {
      few = ltb-false max_elements (length (proof_in b)) l.0;
      none_long = l.1;
      same = sym (same_bytes_lem (ticket (retry_in b) (search_in b) (proof_in b)) t h.1);
    }

-- ---- the number of blocks that is stated

-- four bytes hold the number of any proof's blocks
blocks_few : (es : List Element) → length es ≤ max_elements → Each Short es
    → block_count (ticket_head_bytes + length (elements_bytes es)) < 2 ^ 32
blocks_few es few short = omega (arith, elements_most max_data_bytes es short)

blocks_stated : (R S : ℕ) (es : List Element) → length es ≤ max_elements → Each Short es
    → blocks_in (bodies_of (ticket R S es)) ≡ length (ticket R S es) / block_bytes
unfolding ticket filled content
blocks_stated R S es few short =
    let s : List ℕ = content R S es in
    let l = content_length R S es in
    rw (bodies_blocks s, count_blocks s)
    (big_endian_append 4 s (replicate (body_bytes * block_count (length s) - length s) 0) (omega arith)
    ∙ number_found 4 (block_count (ticket_head_bytes + length (elements_bytes es))) _ (blocks_few es few short)
    ∙ ap block_count (sym l))

pub ticket_stated : (t : List ℕ) → is_ticket t ≡ true → blocks_in (bodies_of t) ≡ length t / block_bytes
ticket_stated t e =
    let b : List ℕ = bodies_of t in
    let s = ticket_said t e in
    subst (λ (u : List ℕ). blocks_in (bodies_of u) ≡ length u / block_bytes) (sym s.same)
    (blocks_stated (retry_in b) (search_in b) (proof_in b) s.few (none_long_short (proof_in b) s.none_long))

-- the first bytes of blocks are those of the first body
pub stated_first : (t : List ℕ) → block_bytes ≤ length t → blocks_in (bodies_of t) ≡ big_endian 4 t
unfolding bodies
stated_first t h = go (length t / block_bytes) (omega arith) (omega arith)
  where
    go : (n : ℕ) → 1 ≤ n → block_bytes * n ≤ length t → big_endian 4 (bodies n t) ≡ big_endian 4 t
    go zero a l = absurd (omega arith)
    go (suc n) a l = number_front 4 body_bytes t (bodies n (drop block_bytes t)) (omega arith) (omega arith)

-- ---- what the yes says of bytes

pub ticket_is : (t : List ℕ) → Bytes t → is_ticket t ≡ true → ProofFits (retry_in (bodies_of t)) (search_in (bodies_of t)) (proof_in (bodies_of t))
ticket_is t B e =
    let b : List ℕ = bodies_of t in
    let C = bodies_bytes (length t / block_bytes) t B in
    let s = ticket_said t e in
    record {
      retry = big_endian_below 8 (drop 4 b) (bytes_drop 4 b C);
      search = big_endian_below 8 (drop 12 b) (bytes_drop 12 b C);
      few = s.few;
      each = elements_fit (count_in b) (elements_part b) (bytes_drop ticket_head_bytes b C) s.none_long;
    }

-- ---- the reader's tests

pub ticket_empty : (t : List ℕ) → length t ≡ 0 → is_ticket t ≡ false
ticket_empty t l =
    let b : List ℕ = bodies_of t in
    refuted (is_ticket t) (λ e. omega (arith, ticket_length (retry_in b) (search_in b) (proof_in b), ap length (ticket_said t e).same))

pub ticket_miscounted : (t : List ℕ) → (blocks_in (bodies_of t) ≢ length t / block_bytes) → is_ticket t ≡ false
ticket_miscounted t n = refuted (is_ticket t) (λ e. n (ticket_stated t e))

pub ticket_many : (t : List ℕ) → max_elements < count_in (bodies_of t) → is_ticket t ≡ false
unfolding is_ticket
ticket_many t h =
    let b : List ℕ = bodies_of t in
    rw (elements_count (count_in b) (elements_part b), lt-ltb max_elements (count_in b) h)

all_short : (n : ℕ) (s : List ℕ) → all_laid_out n s ≡ true
    → some_of (λ (e : Element). ltb max_data_bytes (length e.bytes)) (elements_in n s) ≡ false
unfolding some_of elements_in all_laid_out
all_short zero s e = refl
all_short (suc n) s e =
    let h = both (laid_out s) e in
    let f = element_laid s h.0 in
    rw (f.own_size, le-ltb max_data_bytes (size_in s) f.short, f.size) (all_short n (drop (head_size s + size_in s) s) h.1)

module _ (t : List ℕ) (B : Bytes t) where
  abbrev b : List ℕ
  b = bodies_of t

  pub ticket_read_lem : is_ticket t ≡ true → ReadsAs (retry_in b) (search_in b) (proof_in b) b
  ticket_read_lem e = rw (← (ticket_said t e).same) at (ticket_reads (retry_in b) (search_in b) (proof_in b) (ticket_is t B e))

  pub ticket_outside : all_laid_out (count_in b) (elements_part b) ≡ false → is_ticket t ≡ false
  ticket_outside n = refuted (is_ticket t) (λ e. not_both (ticket_read_lem e).laid n)

  pub ticket_filling : filling_right (drop (ticket_head_bytes + layout_size (count_in b) (elements_part b)) b) ≡ false → is_ticket t ≡ false
  ticket_filling n = refuted (is_ticket t) (λ e. not_both (ticket_read_lem e).filling n)

  -- where all of them pass
  module _ (D : damaged t ≡ false) (some_block : length t ≡ 0 → ⊥) (counted : blocks_in b ≡ length t / block_bytes)
      (few : count_in b ≤ max_elements) (L : all_laid_out (count_in b) (elements_part b) ≡ true) where
    abbrev filling : List ℕ
    filling = drop (ticket_head_bytes + layout_size (count_in b) (elements_part b)) b

    bodies_long : length b ≡ body_bytes * (length t / block_bytes)
    bodies_long = length_bodies (length t / block_bytes) t (omega (arith, (undamaged t D).size))

    bodies_some : ticket_head_bytes ≤ length b
    bodies_some =
        let w = (undamaged t D).size in
        let n : length t / block_bytes ≡ 0 → length t ≡ 0 = λ q. omega arith in
        omega (arith, bodies_long)

    -- less than a body of filling: the elements take as many blocks as there are
    count_again : length filling ≤ max_filling → blocks_in b ≡ block_count (ticket_head_bytes + length (elements_bytes (proof_in b)))
    count_again f =
        omega (
          arith,
          counted,
          bodies_long,
          bodies_some,
          layout_size_lem (count_in b) (elements_part b) L,
          layout_within (count_in b) (elements_part b) L,
          length-drop ticket_head_bytes b,
          length-drop (ticket_head_bytes + layout_size (count_in b) (elements_part b)) b,
        )

    content_again : length filling ≤ max_filling → b ≡ content (retry_in b) (search_in b) (proof_in b) ++ filling
    unfolding content
    content_again f =
        let C = bodies_bytes (length t / block_bytes) t B in
        front_again b C bodies_some
        ∙ rw (
          ← count_again f,
          elements_count (count_in b) (elements_part b),
          ← drop-drop (layout_size (count_in b) (elements_part b)) ticket_head_bytes b,
          append_assoc (bytes_of 4 (blocks_in b)),
          append_assoc (bytes_of 8 (retry_in b)),
          append_assoc (bytes_of 8 (search_in b)),
          append_assoc (bytes_of 4 (count_in b)),
          ← elements_sound (count_in b) (elements_part b) (bytes_drop ticket_head_bytes b C) L,
        )

    pub ticket_found : filling_right filling ≡ true → is_ticket t ≡ true
    unfolding is_ticket ticket filling_right
    ticket_found F =
        let es : List Element = proof_in b in
        let s : List ℕ = content (retry_in b) (search_in b) es in
        let f = both (nat_le (length filling) max_filling) F in
        let w = undamaged t D in
        let l = leb-true (length filling) max_filling f.0 in
        let again = content_again l in
        let same : blocks s ≡ t =
        filled_is s filling (length t / block_bytes) (all_zeros filling (not-true _ f.1)) l (rw (← again) bodies_long)
        ∙ rw (← again) (sealed_bodies (length t / block_bytes) t w.size w.checks) in
        rw (
          same,
          bytes_same t,
          all_short (count_in b) (elements_part b) L,
          le-ltb max_elements (length es) (omega (arith, elements_count (count_in b) (elements_part b))),
        )
