-- `finish`: refused by the limit, or the last bytes with their padding, in blocks.
use Rattle.std.proofs.Common.{◌≡◌, ℕ, ◌+◌, ◌/◌, ◌%◌, ◌++◌, List, length, take, sym, ap, ◌∙◌, arith, length-append, length-take-le, rules}
use Rattle.sampling.specs.core.Fips180.{padding}
use Rattle.sampling.specs.laws.HashLaws.{padding_size}
use Rattle.sampling.specs.laws.HasherLaws.{finished_in_blocks, finished_over}
use Rattle.sampling.proofs.MessageEnd.{read_whole}
use Rattle.sampling.proofs.sha256.Hasher.finish.Goals as goal

pub returns-then-len-gt-MAX_HASHED : goal.returns-then-len-gt-MAX_HASHED
returns-then-len-gt-MAX_HASHED c = sym (finished_over c.args.self (omega arith))

pub returns : goal.returns
returns c =
    let h = c.args.self in
    let t = take (h.len % 64) h.block in
    let block : length h.block ≡ 64 = search rules in
    let size : length t ≡ h.len % 64 = length-take-le (h.len % 64) h.block (omega arith) in
    let whole = length-append t (padding h.len) in
    ap (λ (digest : List ℕ). (0, digest)) (c.last_blocks.ensures
    ∙ rw (
      c.tail_of-m.ensures,
      read_whole h.state (t ++ padding h.len) ((h.len % 64 + 72) / 64) (omega (arith, padding_size h.len)),
    ))
    ∙ sym (finished_in_blocks h block (omega arith))
