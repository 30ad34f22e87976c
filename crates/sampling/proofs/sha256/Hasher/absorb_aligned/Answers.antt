-- `absorb_aligned`: whole blocks first, the rest behind them.
use Rattle.std.proofs.Common.{◌*◌, ◌/◌, length, arith, length-drop, length-take, rules}
use Rattle.sampling.proofs.Absorbing.{len_after, in_two}
use Rattle.sampling.proofs.sha256.Hasher.absorb_aligned.Goals as goal

pub slice_bounds-absorb_blocks-end : goal.slice_bounds-absorb_blocks-end
slice_bounds-absorb_blocks-end c = simp length-take (omega arith)

pub absorb_blocks-requires : goal.absorb_blocks-requires
absorb_blocks-requires c = (search rules, simp length-take (omega arith), simp length-take (omega arith), simp length-take (omega arith))

pub absorb_part-requires-2 : goal.absorb_part-requires-2
absorb_part-requires-2 c =
    let h = c.absorb_blocks in
    let e = simp length-take at (len_after _ h.result _ h.ensures) in
    (simp (length-take, length-drop) (omega arith), simp (length-take, length-drop) (omega arith))

pub returns : goal.returns
returns c =
    let h = c.absorb_blocks in
    let z = c.args in
    in_two z.self h.result c.absorb_part-2.result z.s.now (length z.s.now / 64 * 64) h.ensures c.absorb_part-2.ensures
