use Rattle.std.proofs.Common.{rules, arith}
use Rattle.text.proofs.DecimalLaws.{empty, refused, goes_on, ends}
use Rattle.text.proofs.number.decimal.Goals as goal

pub returns-then-is_empty : goal.returns-then-is_empty
returns-then-is_empty c = search (rules, empty)

pub returns-in_err-value : goal.returns-in_err-value
returns-in_err-value c = search (rules, refused)

pub loop-byte-preserved : goal.loop-byte-preserved
loop-byte-preserved c =
    let l = c.loop-byte in
    (omega arith, goes_on c.args.text.now l.value l.byte-index l.invariant.1 _ (omega arith) c.in_ok-value.ensures)

pub returns : goal.returns
returns c = search (rules, ends)
