-- The answers of `write_ticket` and `read_ticket` by their tests, in their order.
use Rattle.std.proofs.Common.{◌≡◌, ℕ, ◌+◌, ◌-◌, ◌*◌, ◌<◌, ◌≤◌, Bool, true, false, not, ltb, List, ◌++◌, length, drop, replicate, sym, ap, ◌∙◌, append_assoc, arith, length-drop, length-take-le, drop-drop, take_at, drop_at, le-ltb, lt-ltb, ne_eqb}
use borrow.Rule.Slice.PartMut.{mid_of, put_mid}
use lib.Seq.{drop-append-add}
use Rattle.centralized_telescope.specs.declared.errors.Refusal.{Refusal}
use Rattle.centralized_telescope.specs.declared.errors.Refusal.TheVariants as refusal
use Rattle.centralized_telescope.specs.core.Lists.{over}
use Rattle.centralized_telescope.specs.core.Refusals.{refusal_number}
use Rattle.centralized_telescope.specs.core.Elements.{Element, elements, list_check, Lent}
use Rattle.centralized_telescope.specs.later.ProofList.{ProofList, joined_data, list_over, buffers_short, with_buffers}
use Rattle.centralized_telescope.specs.later.Blocks.{block_count, filled, sealed, blocks, bodies_of, damaged, body_bytes, block_bytes}
use Rattle.centralized_telescope.specs.later.Tickets.{content, ticket, TicketWritten, ticket_write_refusal, ticket_written, retry_in}
use Rattle.centralized_telescope.specs.later.Tickets.{search_in, count_in, elements_in, proof_in, is_ticket, unread, read_out}
use Rattle.centralized_telescope.specs.later.Tickets.{ticket_read_refusal, ticket_read, elements_part, read_of}
use Rattle.centralized_telescope.specs.inner.TicketReading.{FoundIs}
use Rattle.centralized_telescope.specs.laws.RefusalsLaws.{refusal_number_lem}
use Rattle.sampling.specs.core.FirstNumber.{line}
use Rattle.sampling.specs.laws.FirstNumberLaws.{number_passed, number_met, second_met, two_passed, number_last}
use Rattle.centralized_telescope.specs.laws.TicketsLaws.{elements_count, data_size_lem}
use Rattle.centralized_telescope.specs.laws.BlocksLaws.{length_filled, length_blocks, sealed_front}

-- ---- the writer

abbrev pub not_written : ℕ → List ℕ → TicketWritten
not_written k out = record { number = k; count = 0; buffer = out }

module _ (R S : ℕ) (lent : Lent) (out : List ℕ) where
  refused : (k : Refusal) → ticket_write_refusal R S lent out ≡ refusal_number k
      → not_written (refusal_number k) out ≡ ticket_written R S lent out
  unfolding ticket_written
  refused k w = rw (w, ne_eqb (refusal_number k) 0 (refusal_number_lem k))

  list_met : (k : Refusal) → list_check lent ≡ refusal_number k → ticket_write_refusal R S lent out ≡ refusal_number k
  unfolding ticket_write_refusal
  list_met k l = number_met (list_check lent) _ (refusal_number k) l (refusal_number_lem k)

  pub write_refused : (k : Refusal) → list_check lent ≡ refusal_number k → not_written (refusal_number k) out ≡ ticket_written R S lent out
  write_refused k l = refused k (list_met k l)

  abbrev body : List ℕ
  body = content R S (elements lent)

  -- the list is accepted, and the code has worked out how long the content is
  module _ (A : list_check lent ≡ 0) (size : ℕ) (Z : size ≡ length body) where
    pub room_met : (t : Bool) → ltb (length out) (block_bytes * block_count size) ≡ t → ticket_write_refusal R S lent out ≡ line 42 t
    unfolding ticket_write_refusal
    room_met t e = number_passed (list_check lent) _ A ∙ rw (← Z, e) (number_last (line 42 t))

    pub write_short : length out < block_bytes * block_count size → not_written 42 out ≡ ticket_written R S lent out
    write_short h = refused refusal.BufferShort (room_met true (lt-ltb (length out) (block_bytes * block_count size) h))

    module _ (h : block_bytes * block_count size ≤ length out) where
      abbrev bodies : ℕ
      bodies = body_bytes * block_count size

      -- content and zeros, in the place of the bytes that were there
      module _ (out₁ z : List ℕ) (E : out₁ ≡ over body out) (F : z ≡ replicate (length (mid_of size (bodies - size) out₁)) 0) where
        behind : drop size out₁ ≡ drop size out
        behind = rw (E) (drop_at body (drop (length body) out) size (sym Z) ∙ ap (λ (k : ℕ). drop k out) (sym Z))

        filling : z ≡ replicate (bodies - size) 0
        filling =
            let l : length (mid_of size (bodies - size) out₁) ≡ bodies - size =
            rw behind (length-take-le (bodies - size) (drop size out) (omega (arith, length-drop size out))) in
            F ∙ ap (λ (k : ℕ). replicate k 0) l

        in_bodies : put_mid size (bodies - size) out₁ z ≡ filled body ++ drop bodies out
        unfolding filled
        in_bodies =
            let r : size + (bodies - size) ≡ bodies = omega arith in
            rw (
              behind,
              drop-drop (bodies - size) size out,
              r,
              E,
              take_at body (drop (length body) out) size (sym Z),
              filling,
              append_assoc body,
              ← Z,
            )

        -- the blocks of the content, and what lay past them
        all_sealed : sealed (block_count size) (filled body ++ drop bodies out)
            ++ drop (block_bytes * block_count size) (filled body ++ drop bodies out) ≡ over (ticket R S (elements lent)) out
        unfolding ticket blocks
        all_sealed =
            let c = ap block_count Z in
            let l : length (filled body) ≡ bodies = length_filled body ∙ ap (λ (k : ℕ). body_bytes * k) (sym c) in
            let q : block_bytes * block_count size ≡ length (filled body) + 8 * block_count size = omega arith in
            let p : bodies + 8 * block_count size ≡ length (blocks body) = omega (arith, length_blocks body, c) in
            ap (λ (t : List ℕ). sealed (block_count size) (filled body ++ drop bodies out) ++ t)
            (ap (λ (k : ℕ). drop k (filled body ++ drop bodies out)) q
            ∙ drop-append-add (filled body) (drop bodies out) (8 * block_count size)
            ∙ drop-drop (8 * block_count size) bodies out
            ∙ ap (λ (k : ℕ). drop k out) p)
            ∙ ap (λ (t : List ℕ). t ++ drop (length (blocks body)) out)
            (sealed_front (block_count size) (filled body) (drop bodies out) l ∙ ap (λ (k : ℕ). sealed k (filled body)) c)

        pub write_done : (out₃ : List ℕ)
            → out₃ ≡ sealed (block_count size) (put_mid size (bodies - size) out₁ z)
            ++ drop (block_bytes * block_count size) (put_mid size (bodies - size) out₁ z)
            → ◌≡◌ {A = TicketWritten} (record { number = 0; count = block_count size; buffer = out₃ }) (ticket_written R S lent out)
        unfolding ticket_written
        write_done out₃ G = rw (room_met false (le-ltb (length out) (block_bytes * block_count size) h), ← Z, G, in_bodies, all_sealed)

-- ---- the reader

module _ (t : List ℕ) (buffers : Lent) where
  abbrev bs : List ℕ
  bs = bodies_of t

  abbrev es : List Element
  es = proof_in (bodies_of t)

  unread_is : (k : Refusal) → ticket_read_refusal t buffers ≡ refusal_number k → unread (refusal_number k) buffers ≡ ticket_read t buffers
  unfolding ticket_read
  unread_is k w = rw (w, ne_eqb (refusal_number k) 0 (refusal_number_lem k))

  damaged_met : damaged t ≡ true → ticket_read_refusal t buffers ≡ 40
  unfolding ticket_read_refusal
  damaged_met e = number_met (line 40 (damaged t)) _ 40 (rw e) (refusal_number_lem refusal.DamagedTicket)

  pub read_damaged : damaged t ≡ true → unread 40 buffers ≡ ticket_read t buffers
  read_damaged e = unread_is refusal.DamagedTicket (damaged_met e)

  module _ (D : damaged t ≡ false) where
    layout_met : is_ticket t ≡ false → ticket_read_refusal t buffers ≡ 41
    unfolding ticket_read_refusal
    layout_met e = second_met (line 40 (damaged t)) (line 41 (not (is_ticket t))) _ 41 (rw D) (rw e) (refusal_number_lem refusal.NoTicket)

    pub no_ticket : is_ticket t ≡ false → unread 41 buffers ≡ ticket_read t buffers
    no_ticket e = unread_is refusal.NoTicket (layout_met e)

    -- by the number of elements and of data bytes that the code has found
    module _ (count size : ℕ) (F : FoundIs count size t) where
      count_is : count ≡ length es
      count_is = F.counted ∙ sym (elements_count (count_in bs) (elements_part bs))

      size_is : size ≡ length (joined_data es)
      size_is =
          F.uses ∙ data_size_lem count (elements_part bs) F.laid
          ∙ ap (λ (k : ℕ). length (joined_data (elements_in k (elements_part bs)))) F.counted

      abbrev short : Bool
      short = buffers_short count size buffers

      room_says : (u v : Bool) → u ≡ short → u ≡ v → ticket_read_refusal t buffers ≡ line 42 v
      unfolding ticket_read_refusal
      room_says u v e f =
          two_passed (line 40 (damaged t)) (line 41 (not (is_ticket t))) _ (rw D) (rw F.is)
          ∙ rw (← count_is, ← size_is, sym e ∙ f) (number_last (line 42 v))

      pub room_short : (u : Bool) → u ≡ short → u ≡ true → unread 42 buffers ≡ ticket_read t buffers
      room_short u e f = unread_is refusal.BufferShort (room_says u true e f)

      pub read_done : (R S len : ℕ) (buffers' : Lent) (u : Bool) → u ≡ short → u ≡ false
          → R ≡ retry_in bs → S ≡ search_in bs
          → with_buffers 0 len buffers' ≡ list_over (elements_in count (elements_part bs)) buffers
          → read_of 0 R S count len buffers' ≡ ticket_read t buffers
      unfolding ticket_read read_out list_over
      read_done R S len buffers' u e f P Q W =
          let same : with_buffers 0 len buffers' ≡ list_over es buffers =
          W ∙ ap (λ (k : ℕ). list_over (elements_in k (elements_part bs)) buffers) F.counted in
          rw (
            room_says u false e f,
            P,
            Q,
            count_is,
            ap (λ (w : ProofList). w.len) same,
            ap (λ (w : ProofList). w.buffers) same,
          )
