-- The six claims on tickets.
use Rattle.std.proofs.Common.{◌≡◌, ℕ, zero, suc, ◌-◌, ◌*◌, ◌/◌, ◌%◌, ◌^◌, ◌<◌, ◌≤◌, Bool, true, false, cond, ltb, List, [], ◌∷◌, ◌++◌, length, get_or, take, drop, sym, refl, ap, ◌∙◌, ⊎_elim, arith, length-take, ltb-false, le-ltb, eq-eqb}
use mathlib.Core.Option.{Option, none, some}
use Rattle.sampling.specs.core.BigEndian.{big_endian}
use Rattle.centralized_telescope.specs.laws.TestLaws.{not_both, refuted, confirmed, neither, lt_or_le}
use Rattle.centralized_telescope.specs.laws.ListsLaws.{take_over}
use Rattle.centralized_telescope.specs.laws.ElementsLaws.{accepted, length_elements, few_elements}
use Rattle.centralized_telescope.specs.laws.ProofListLaws.{accepted_again, elements_again, front_over}
use Rattle.centralized_telescope.specs.laws.BytesLaws.{Bytes, each_bytes, front_number}
use Rattle.centralized_telescope.specs.laws.BlocksLaws.{length_blocks, undamaged, blocks_undamaged}
use Rattle.centralized_telescope.specs.laws.TicketsReadLaws.{none_over, none_long_short, number_small, ticket_reads, is_ticket_lem}
use Rattle.centralized_telescope.specs.laws.TicketsReadLaws.{ticket_said, ticket_is, ticket_length, stated_first, ticket_stated}
use Rattle.centralized_telescope.specs.laws.TicketsReadLaws.{ticket_empty, ticket_miscounted}
use Rattle.centralized_telescope.specs.declared.params.Params.{Params}
use Rattle.centralized_telescope.specs.core.Lists.{Each}
use Rattle.sampling.specs.core.FirstNumber.{first_number}
use Rattle.centralized_telescope.specs.core.Elements.{Element, elements_from, elements, data_long, list_check, Lent, lent_of}
use Rattle.centralized_telescope.specs.core.Elements.{max_data_bytes}
use Rattle.centralized_telescope.specs.later.Words.{mark_of, number_of}
use Rattle.centralized_telescope.specs.core.Verifier.{verdict}
use Rattle.centralized_telescope.specs.core.Exports.{exported_verdict}
use Rattle.centralized_telescope.specs.later.ProofList.{joined_data, marks_of, indexes_of, buffers_short, list_of}
use Rattle.centralized_telescope.specs.later.Blocks.{block_count, bodies_of, damaged, block_bytes}
use Rattle.centralized_telescope.specs.later.Tickets.{content, ticket, ElementFits, ProofFits, IsTicket, blocks_in, retry_in, search_in}
use Rattle.centralized_telescope.specs.later.Tickets.{proof_in, is_ticket, TicketWritten, ticket_write_refusal, ticket_written, TicketRead}
use Rattle.centralized_telescope.specs.later.Tickets.{read_out, ticket_read_refusal, ticket_read}
use Rattle.centralized_telescope.specs.later.TicketClaims.{blocks_of, read_list, HasRoom, carried, CanCarry, ReadBack, ReadsBack}
use Rattle.centralized_telescope.specs.later.TicketClaims.{WrittenBack, written_again, WritesBack, judged_again, JudgedAlike}
use Rattle.centralized_telescope.specs.later.TicketClaims.{TicketOrNot, OneProof, TicketsExactly, BlocksCounted, in_bytes}
use Rattle.centralized_telescope.specs.later.TicketClaims.{lent_in_bytes, judged_in_bytes, BytesJudgedAlike}
use Rattle.centralized_telescope.specs.laws.InBytesLaws.{numbers_back, whole_count, numbered_back, ends_fit, indexes_fit}
use Rattle.centralized_telescope.proofs.TicketAnswers.{no_ticket}
use Rattle.centralized_telescope.proofs.VerdictHolds.{of_numbers}

-- ---- the elements of an accepted list whose indexes are of 64 bits

pub fit_from : (from : ℕ) (d n m x : List ℕ) → Each (λ (v : ℕ). v < 2 ^ 64) x → data_long from n ≡ false
    → Each ElementFits (elements_from from d n m x)
unfolding Each data_long elements_from
fit_from from d [] m x X l = tt
fit_from from d (k ∷ n) [] x X l = tt
fit_from from d (k ∷ n) (j ∷ m) [] X l = tt
fit_from from d (k ∷ n) (j ∷ m) (v ∷ x) X l =
    let h = neither (ltb max_data_bytes (k - from)) l in (
      (omega (arith, length-take (k - from) (drop from d), ltb-false max_data_bytes (k - from) h.0), number_small j v (2 ^ 64) X.0),
      fit_from k d n m x X.1 h.1,
    )

-- ---- what the writer wrote

module _ (R S : ℕ) (lent : Lent) (out : List ℕ) where
  abbrev w : TicketWritten
  w = ticket_written R S lent out

  -- an accepted list, and room
  is_written : (t : List ℕ) → t ≡ ticket R S (elements lent) → list_check lent ≡ 0 → length t ≤ length out → WrittenBack t out w
  unfolding ticket_written ticket_write_refusal first_number ticket
  is_written t e A room =
      let c : List ℕ = content R S (elements lent) in
      let l : length t ≡ block_bytes * block_count (length c) = rw e (length_blocks c) in
      let k : ticket_write_refusal R S lent out ≡ 0 = rw (A, le-ltb (length out) (block_bytes * block_count (length c)) (omega arith)) in
      rw (eq-eqb (ticket_write_refusal R S lent out) 0 k) record { number = refl; count = omega arith; blocks = rw e }

  blocks_written : list_check lent ≡ 0 → length (ticket R S (elements lent)) ≤ length out → blocks_of w ≡ ticket R S (elements lent)
  unfolding ticket
  blocks_written A room =
      let t : List ℕ = ticket R S (elements lent) in
      let W = is_written t refl A room in
      rw (W.count, W.blocks)
      (take_over (block_bytes * (length t / block_bytes)) t out (omega (arith, length_blocks (content R S (elements lent)))))

-- ---- what the reader read

module _ (R S : ℕ) (es : List Element) (buffers : Lent) where
  parts : read_list (read_out R S es buffers) ≡ list_of es
  unfolding read_out
  parts = front_over es buffers (length es) refl

  -- what was read, written out and judged
  again : (out : List ℕ) → written_again (read_out R S es buffers) out ≡ ticket_written R S (list_of es) out
  unfolding read_out
  again out = ap (λ (lent : Lent). ticket_written R S lent out) parts

  verdict_on : (p : Params) → judged_again p (read_out R S es buffers) ≡ verdict p R S (list_of es)
  unfolding read_out
  verdict_on p = ap (verdict p R S) parts

zero_index : (es : List Element) (y z : List ℕ) (i : ℕ) → i < length es → get_or (marks_of es ++ y) i 0 ≡ 0 → get_or (indexes_of es ++ z) i 0 ≡ 0
zero_index [] y z i h e = absurd (omega arith)
zero_index (k ∷ es) y z zero h e = go k.index e
  where
    go : (o : Option ℕ) → mark_of o ≡ 0 → number_of o ≡ 0
    go none e = refl
    go (some v) e = absurd (omega arith)
zero_index (k ∷ es) y z (suc i) h e = zero_index es y z i (omega arith) e

-- the reader's number by the three tests: damaged, a ticket, a buffer too short
abbrev number_by : Bool → Bool → Bool → ℕ
number_by p q s = cond p 40 (cond q (cond s 42 0) 41)

module _ (t : List ℕ) (buffers : Lent) where
  abbrev r : TicketRead
  r = ticket_read t buffers

  abbrev b : List ℕ
  b = bodies_of t

  abbrev short : Bool
  short = buffers_short (length (proof_in b)) (length (joined_data (proof_in b))) buffers

  damage_met : damaged t ≡ true → r.number ≡ 40
  unfolding ticket_read ticket_read_refusal first_number
  damage_met D = rw D

  refused : damaged t ≡ false → is_ticket t ≡ false → r.number ≡ 41
  unfolding ticket_read ticket_read_refusal first_number
  refused D I = rw (D, I)

  no_room : damaged t ≡ false → is_ticket t ≡ true → short ≡ true → r.number ≡ 42
  unfolding ticket_read ticket_read_refusal first_number
  no_room D I s = rw (D, I, s)

  read_all : damaged t ≡ false → is_ticket t ≡ true → short ≡ false → r ≡ read_out (retry_in b) (search_in b) (proof_in b) buffers
  unfolding ticket_read ticket_read_refusal first_number
  read_all D I s = rw (D, I, s)

  -- so the number tells the three tests' answers
  number_is : r.number ≡ number_by (damaged t) (is_ticket t) short
  unfolding read_out
  number_is = go (damaged t) (is_ticket t) short refl refl refl
    where
      go : (p q s : Bool) → damaged t ≡ p → is_ticket t ≡ q → short ≡ s → r.number ≡ number_by p q s
      go true q s D I B = damage_met D
      go false false s D I B = refused D I
      go false true true D I B = no_room D I B
      go false true false D I B = rw (read_all D I B)

  forty : r.number ≡ 40 → damaged t ≡ true
  forty e = go (damaged t) (is_ticket t) short (sym number_is ∙ e)
    where
      go : (p q s : Bool) → number_by p q s ≡ 40 → p ≡ true
      go true q s h = refl
      go false false s h = absurd (omega arith)
      go false true true h = absurd (omega arith)
      go false true false h = absurd (omega arith)

  forty_one : r.number ≡ 41 → (damaged t ≡ false) × (is_ticket t ≡ false)
  forty_one e = go (damaged t) (is_ticket t) short (sym number_is ∙ e)
    where
      go : (p q s : Bool) → number_by p q s ≡ 41 → (p ≡ false) × (q ≡ false)
      go true q s h = absurd (omega arith)
      go false false s h = (refl, refl)
      go false true true h = absurd (omega arith)
      go false true false h = absurd (omega arith)

  forty_two : r.number ≡ 42 → (is_ticket t ≡ true) × (short ≡ true)
  forty_two e = go (damaged t) (is_ticket t) short (sym number_is ∙ e)
    where
      go : (p q s : Bool) → number_by p q s ≡ 42 → (q ≡ true) × (s ≡ true)
      go true q s h = absurd (omega arith)
      go false false s h = absurd (omega arith)
      go false true true h = (refl, refl)
      go false true false h = absurd (omega arith)

  record Accepted : Type 0 where
    whole : damaged t ≡ false
    is : is_ticket t ≡ true
    room : short ≡ false

  accepts : r.number ≡ 0 → Accepted
  accepts e = go (damaged t) (is_ticket t) short refl refl refl (sym number_is ∙ e)
    where
      go : (p q s : Bool) → damaged t ≡ p → is_ticket t ≡ q → short ≡ s → number_by p q s ≡ 0 → Accepted
      go true q s D I B h = absurd (omega arith)
      go false false s D I B h = absurd (omega arith)
      go false true true D I B h = absurd (omega arith)
      go false true false D I B h = record { whole = D; is = I; room = B }

-- ---- the claims

module _ (R S : ℕ) (lent : Lent) (out : List ℕ) (buffers : Lent) (C : CanCarry R S lent out buffers) where
  open buffers use {bytes as d', marks as m', indexes as x'}
  open lent use {bytes as d, ends as n, marks as m, indexes as x}

  abbrev es : List Element
  es = elements lent

  reads : ProofFits R S es
  reads = record {
    retry = C.retry;
    search = C.search;
    few = omega (arith, length_elements lent C.accepted, few_elements lent C.accepted);
    each = fit_from 0 d n m x C.index_numbers (accepted lent C.accepted).short;
  }

  ticket_whole : damaged (ticket R S es) ≡ false
  unfolding ticket
  ticket_whole = blocks_undamaged (content R S es)

  all_read : carried R S lent out buffers ≡ read_out R S es buffers
  all_read =
      let f = ticket_reads R S es reads in
      rw (blocks_written R S lent out C.accepted C.long)
      (read_all (ticket R S es) buffers ticket_whole (is_ticket_lem R S es reads) (rw f.proof C.room)
      ∙ rw (f.retry, f.search, f.proof))

  listed_again : list_check (list_of es) ≡ 0
  listed_again = accepted_again es reads.few (none_long_short es (none_over es reads.each))

  read_back : ReadBack R S es (carried R S lent out buffers)
  unfolding read_out
  read_back =
      rw all_read
      record {
        number = refl;
        retry = refl;
        search = refl;
        count = refl;
        same = ap elements (parts R S es buffers) ∙ elements_again es;
        accepted = ap list_check (parts R S es buffers) ∙ listed_again;
        data_alone = take_over (length (joined_data es)) (joined_data es) d' refl;
        index_zero = zero_index es (drop (length (marks_of es)) m') (drop (length (indexes_of es)) x');
      }

  alike : (p : Params) → judged_again p (carried R S lent out buffers) ≡ verdict p R S lent
  unfolding verdict
  alike p = ap (judged_again p) all_read ∙ verdict_on R S es buffers p ∙ rw (listed_again, elements_again es, C.accepted)

pub reads_back : ReadsBack
reads_back R S lent out buffers C = (
  (is_written R S lent out (ticket R S (elements lent)) refl C.accepted C.long).number,
  read_back R S lent out buffers C,
)

pub judged_alike : JudgedAlike
judged_alike p R S lent out buffers C = alike R S lent out buffers C p

module _ (t : List ℕ) (buffers : Lent) where
  abbrev R' : ℕ
  R' = retry_in (bodies_of t)

  abbrev S' : ℕ
  S' = search_in (bodies_of t)

  abbrev es' : List Element
  es' = proof_in (bodies_of t)

  module _ (N : (ticket_read t buffers).number ≡ 0) where
    read : ticket_read t buffers ≡ read_out R' S' es' buffers
    read = let a = accepts t buffers N in read_all t buffers a.whole a.is a.room

    write_back : (out : List ℕ) → length t ≤ length out → WrittenBack t out (written_again (ticket_read t buffers) out)
    write_back out l =
        let s = ticket_said t (accepts t buffers N).is in
        rw (read, again R' S' es' buffers out)
        (is_written R' S' (list_of es') out t
        (s.same ∙ ap (ticket R' S') (sym (elements_again es')))
        (accepted_again es' s.few (none_long_short es' s.none_long)) l)

    fits : Bytes t → ProofFits (ticket_read t buffers).retry (ticket_read t buffers).search (elements (read_list (ticket_read t buffers)))
    unfolding read_out
    fits B = rw (read, ap elements (parts R' S' es' buffers), elements_again es') (ticket_is t B (accepts t buffers N).is)

    same : t ≡ ticket (ticket_read t buffers).retry (ticket_read t buffers).search (elements (read_list (ticket_read t buffers)))
    unfolding read_out
    same = rw (read, ap elements (parts R' S' es' buffers), elements_again es') (ticket_said t (accepts t buffers N).is).same

  said : IsTicket t → is_ticket t ≡ true
  said k = rw k.4 (is_ticket_lem k.0 k.1 k.2 k.3)

  abbrev is_a_ticket : Bytes t → is_ticket t ≡ true → IsTicket t
  is_a_ticket B e = (R', S', es', ticket_is t B e, (ticket_said t e).same)

  not_said : Bytes t → (IsTicket t → ⊥) → is_ticket t ≡ false
  not_said B none_is = refuted (is_ticket t) (λ e. none_is (is_a_ticket B e))

  whole : IsTicket t → damaged t ≡ false
  unfolding ticket
  whole k = rw k.4 (blocks_undamaged (content k.0 k.1 k.2))

  proof_found : (k : IsTicket t) → es' ≡ k.2
  proof_found k = rw k.4 (ticket_reads k.0 k.1 k.2 k.3).proof

  read_with_room : (k : IsTicket t) → HasRoom k.2 buffers → (ticket_read t buffers).number ≡ 0
  unfolding read_out
  read_with_room k room = rw (read_all t buffers (whole k) (said k) (rw (proof_found k) room))

  too_short : Bytes t → (ticket_read t buffers).number ≡ 42 → (k : IsTicket t) × (HasRoom k.2 buffers → ⊥)
  too_short B e = let f = forty_two t buffers e in (is_a_ticket B f.0, λ room. not_both f.1 room)

  short_refused : (k : IsTicket t) → (HasRoom k.2 buffers → ⊥) → (ticket_read t buffers).number ≡ 42
  short_refused k short = no_room t buffers (whole k) (said k) (rw (proof_found k) (confirmed _ short))

  not_a_ticket : (ticket_read t buffers).number ≡ 41 → (damaged t ≡ false) × (IsTicket t → ⊥)
  not_a_ticket e = let f = forty_one t buffers e in (f.0, λ k. not_both (said k) f.1)

  ticket_or_not : Each (λ (b : ℕ). b < 256) t → TicketOrNot t buffers
  ticket_or_not E =
      let B = each_bytes t E in
      record {
        damage = (forty t buffers, damage_met t buffers);
        no_ticket = (not_a_ticket, λ f. refused t buffers f.0 (not_said B f.1));
        undamaged = whole;
        short = (too_short B, λ f. short_refused f.0 f.1);
        reads = read_with_room;
        fits = λ N. fits N B;
        same = same;
      }

-- ---- in bytes

-- a list whose numbers fit
in_bytes_lem : (p : Params) (R S : ℕ) (lent : Lent) → Each (λ (v : ℕ). v < 2 ^ 32) lent.ends → Each (λ (v : ℕ). v < 2 ^ 64) lent.indexes
    → exported_verdict p R S (lent_in_bytes lent) ≡ verdict p R S lent
in_bytes_lem p R S lent E X =
    let ends = eq-eqb (length (in_bytes 4 lent.ends) % 4) 0 (whole_count 4 lent.ends) in
    let indexes = eq-eqb (length (in_bytes 8 lent.indexes) % 8) 0 (whole_count 8 lent.indexes) in
    of_numbers p R S (lent_in_bytes lent) (rw (ends, indexes)) ∙ ap (verdict p R S) (numbered_back lent E X)

-- what a reader reads of a proof within the limits
read_in_bytes : (p : Params) (R S : ℕ) (es : List Element) (buffers : Lent) → ProofFits R S es
    → judged_in_bytes p (read_out R S es buffers) ≡ judged_again p (read_out R S es buffers)
unfolding read_out
read_in_bytes p R S es buffers F =
    let E = ends_fit (2 ^ 32) 0 es F.each (omega (arith, F.few)) in
    let X = indexes_fit es F.each in
    ap (λ (lent : Lent). exported_verdict p R S (lent_in_bytes lent)) (parts R S es buffers) ∙ in_bytes_lem p R S (list_of es) E X
    ∙ sym (verdict_on R S es buffers p)

bytes_alike : (p : Params) (t : List ℕ) (buffers : Lent) → Each (λ (b : ℕ). b < 256) t → (ticket_read t buffers).number ≡ 0
    → judged_in_bytes p (ticket_read t buffers) ≡ judged_again p (ticket_read t buffers)
bytes_alike p t buffers B N =
    rw (read t buffers N)
    (read_in_bytes p (R' t buffers) (S' t buffers) (es' t buffers) buffers (ticket_is t (each_bytes t B) (accepts t buffers N).is))

carried_alike : (p : Params) (R S : ℕ) (lent : Lent) (out : List ℕ) (buffers : Lent) → CanCarry R S lent out buffers
    → judged_in_bytes p (carried R S lent out buffers) ≡ verdict p R S lent
carried_alike p R S lent out buffers C =
    ap (judged_in_bytes p) (all_read R S lent out buffers C)
    ∙ read_in_bytes p R S (elements lent) buffers (reads R S lent out buffers C)
    ∙ sym (ap (judged_again p) (all_read R S lent out buffers C))
    ∙ judged_alike p R S lent out buffers C

pub bytes_judged_alike : BytesJudgedAlike
bytes_judged_alike = (numbers_back, in_bytes_lem, bytes_alike, carried_alike)

pub writes_back : WritesBack
writes_back t buffers out N l = write_back t buffers N out l

one_proof : OneProof
one_proof R S es R' S' es' f g q =
    let a = ticket_reads R S es f in
    let b = ticket_reads R' S' es' g in
    let e = rw q at a in
    record { retry = sym e.retry ∙ b.retry; search = sym e.search ∙ b.search; same = sym e.proof ∙ b.proof }

pub tickets_exactly : TicketsExactly
tickets_exactly = (ticket_or_not, one_proof)

-- ---- the number of blocks

miscounted : (t : List ℕ) → damaged t ≡ false → (big_endian 4 t ≡ length t / block_bytes → ⊥) → is_ticket t ≡ false
miscounted t D f =
    ⊎_elim
    (λ s. ticket_empty t (omega (arith, (undamaged t D).size)))
    (λ h. ticket_miscounted t (λ e. f (sym (stated_first t h) ∙ e)))
    (lt_or_le (length t) block_bytes)

module _ (t : List ℕ) (k : IsTicket t) where
  first_block : block_bytes ≤ length t
  first_block = rw k.4 (ticket_length k.0 k.1 k.2)

  counted : length t ≡ block_bytes * big_endian 4 t
  counted =
      omega (
        arith,
        (undamaged t (whole t (lent_of [] [] [] []) k)).size,
        stated_first t first_block,
        ticket_stated t (said t (lent_of [] [] [] []) k),
      )

  stated_by_front : (n : ℕ) → block_bytes ≤ n → blocks_in (bodies_of (take n t)) ≡ big_endian 4 t
  stated_by_front n h =
      stated_first (take n t) (omega (arith, length-take n t, first_block)) ∙ front_number 4 n t (omega arith) (omega (arith, first_block))

pub blocks_counted : BlocksCounted
blocks_counted = (counted, λ t n k. stated_by_front t k n, λ t buffers D f. sym (no_ticket t buffers D (miscounted t D f)))
