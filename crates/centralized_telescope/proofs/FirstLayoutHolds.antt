-- The claim on tickets of the first layout: with R below 2^32 they state no block.
use Rattle.std.proofs.Common.{◌≡◌, ℕ, zero, suc, ◌+◌, ◌-◌, ◌*◌, ◌/◌, ◌%◌, ◌^◌, ◌<◌, ◌≤◌, false, List, [], ◌∷◌, ◌++◌, length, replicate, sym, refl, ◌∙◌, append_assoc, pow-suc, arith, length-append}
use Rattle.sampling.specs.core.BigEndian.{big_endian, bytes_of}
use Rattle.sampling.specs.laws.BigEndianLaws.{length_bytes_of, big_endian_append, read_back}
use Rattle.centralized_telescope.specs.laws.BlocksLaws.{count_blocks, bodies_blocks, blocks_undamaged}
use Rattle.centralized_telescope.specs.laws.TicketsReadLaws.{ticket_miscounted}
use Rattle.centralized_telescope.specs.core.Elements.{Element}
use Rattle.centralized_telescope.specs.later.Blocks.{block_count, filled, blocks, bodies_of, damaged, body_bytes, block_bytes}
use Rattle.centralized_telescope.specs.later.ElementBytes.{elements_bytes}
use Rattle.centralized_telescope.specs.later.Tickets.{content, ticket, blocks_in, is_ticket}
use Rattle.centralized_telescope.specs.later.FirstLayout.{first_ticket, FirstRefused}
use Rattle.centralized_telescope.proofs.TicketAnswers.{no_ticket}

-- the first four bytes of j + 4 are zeros if the last j hold the number
four_zeros : (j v : ℕ) → v < 256 ^ j → big_endian 4 (bytes_of (j + 4) v) ≡ 0
unfolding bytes_of
four_zeros zero v h = let e : v ≡ 0 = omega arith in rw e (read_back 4 0 (omega arith))
four_zeros (suc j) v h =
    let e : suc j + 4 ≡ suc (j + 4) = omega arith in
    rw e
    (big_endian_append 4 (bytes_of (j + 4) (v / 256)) (v % 256 ∷ []) (omega (arith, length_bytes_of (j + 4) (v / 256)))
    ∙ four_zeros j (v / 256) (omega (arith, pow-suc 256 j)))

module _ (R S : ℕ) (es : List Element) (h : R < 2 ^ 32) where
  abbrev rest : List ℕ
  rest = bytes_of 8 S ++ (bytes_of 4 (length es) ++ elements_bytes es)

  abbrev body : List ℕ
  body = bytes_of 8 R ++ rest

  nothing_stated : blocks_in (bodies_of (blocks body)) ≡ 0
  unfolding filled
  nothing_stated =
      let z : List ℕ = replicate (body_bytes * block_count (length body) - length body) 0 in
      rw (bodies_blocks body, append_assoc (bytes_of 8 R) rest z)
      (big_endian_append 4 (bytes_of 8 R) (rest ++ z) (omega (arith, length_bytes_of 8 R)) ∙ four_zeros 4 R h)

  some_block : 1 ≤ length (blocks body) / block_bytes
  some_block = omega (arith, count_blocks body, length-append (bytes_of 8 R) rest, length_bytes_of 8 R)

  no_such : is_ticket (first_ticket R S es) ≡ false
  unfolding first_ticket
  no_such = ticket_miscounted (blocks body) (λ e. omega (arith, nothing_stated, some_block))

  whole : damaged (first_ticket R S es) ≡ false
  unfolding first_ticket
  whole = blocks_undamaged body

another_proof : first_ticket (2 ^ 32) 0 [] ≡ ticket 0 0 []
unfolding first_ticket ticket content blocks filled elements_bytes bytes_of
another_proof = refl

pub first_refused : FirstRefused
first_refused = (λ R S es h buffers. sym (no_ticket (first_ticket R S es) buffers (whole R S es h) (no_such R S es h)), another_proof)
