-- `number_of`: v is what the first bytes make, up to the index.
use Rattle.std.proofs.Common.{◌≡◌, ℕ, ◌<◌, List, length, get_or, take, arith}
use Rattle.std.proofs.lemmas.List.{get_or-take}
use Rattle.std.proofs.Math.ListN.{length-take}
use Rattle.sampling.proofs.BytesRead.{none_read, room_for_byte, byte_added, byte_read}
use Rattle.sampling.proofs.big_endian.number_of.Goals as goal

pub loop-byte-init : goal.loop-byte-init
loop-byte-init c = (none_read c.args.bytes.now, omega arith)

-- a byte of the part is one of all
of_all : (k i : ℕ) (bytes : List ℕ) → i < length (take k bytes) → get_or (take k bytes) i 0 ≡ get_or bytes i 0
of_all k i bytes l = get_or-take k bytes i 0 (omega (arith, length-take k bytes))

pub overflow_mul-v : goal.overflow_mul-v
overflow_mul-v c =
    let l = c.loop-byte in
    omega (arith, room_for_byte l.v l.byte-index l.invariant.1 (omega (arith, length-take c.min.result c.args.bytes.now)))

pub overflow_add-v : goal.overflow_add-v
overflow_add-v c =
    let l = c.loop-byte in
    let b = c.args.bytes.now in
    let few : l.byte-index < 8 = omega (arith, length-take c.min.result b) in
    omega (
      arith,
      room_for_byte l.v l.byte-index l.invariant.1 few,
      of_all c.min.result l.byte-index b c.loop-byte-test.true,
      c.type_inv.bytes l.byte-index,
      c.from.ensures,
    )

pub loop-byte-preserved : goal.loop-byte-preserved
loop-byte-preserved c =
    let l = c.loop-byte in
    let b = c.args.bytes.now in
    let more = byte_added l.v l.byte-index l.invariant.1 (get_or b l.byte-index 0) (omega (arith, c.type_inv.bytes l.byte-index)) in
    rw (c.from.ensures, of_all c.min.result l.byte-index b c.loop-byte-test.true) (byte_read b l.byte-index l.v l.invariant.0, more)
