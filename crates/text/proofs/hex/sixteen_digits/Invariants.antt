use Rattle.text.proofs.HexRead.{Read}
use Rattle.text.proofs.hex.sixteen_digits.Given as goal

abbrev pub invariant-loop-byte : goal.invariant-loop-byte
invariant-loop-byte l = Read l.text l.value l.byte-index
