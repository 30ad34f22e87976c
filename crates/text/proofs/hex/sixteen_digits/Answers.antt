use Rattle.std.proofs.Common.{rules, arith}
use Rattle.text.proofs.HexRead.{other_length, no_digit, room, one_more, all_read}
use Rattle.text.proofs.hex.sixteen_digits.Goals as goal

pub returns-then-text-ne16 : goal.returns-then-text-ne16
returns-then-text-ne16 c = search (rules, other_length)

pub overflow_mul-value : goal.overflow_mul-value
overflow_mul-value c = omega (arith, room c.args.text.now c.loop-byte.value c.loop-byte.byte-index c.loop-byte.invariant (omega arith))

pub returns-in_err-digit : goal.returns-in_err-digit
returns-in_err-digit c = search (rules, no_digit)

pub overflow_add-value : goal.overflow_add-value
overflow_add-value c =
    omega (arith, room c.args.text.now c.loop-byte.value c.loop-byte.byte-index c.loop-byte.invariant (omega arith), c.in_ok-digit.ensures.1)

pub loop-byte-preserved : goal.loop-byte-preserved
loop-byte-preserved c =
    let l = c.loop-byte in
    let d = c.in_ok-digit in
    one_more c.args.text.now l.value l.byte-index d.field-0 _ l.invariant (omega arith) d.ensures.0 d.ensures.1 (omega (arith, c.from.ensures))

pub returns : goal.returns
returns c = search (rules, all_read)
