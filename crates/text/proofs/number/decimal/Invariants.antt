use Rattle.std.proofs.Common.{◌<◌, length}
use Rattle.text.proofs.DecimalLaws.{At}
use Rattle.text.proofs.number.decimal.Given as goal

abbrev pub invariant-loop-byte : goal.invariant-loop-byte
invariant-loop-byte l = (0 < length l.text) × At l.text l.value l.byte-index
