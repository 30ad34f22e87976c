-- `absorb_all`: by where the block that is being filled ends.
use Rattle.std.proofs.Common.{◌≡◌, ◌+◌, ◌-◌, ◌%◌, ◌∙◌, arith, length-drop, length-take, length-take-le}
use Rattle.sampling.proofs.Absorbing.{len_after, in_two}
use Rattle.sampling.proofs.sha256.Hasher.absorb_all.Goals as goal

pub slice_bounds-absorb_end-end : goal.slice_bounds-absorb_end-end
slice_bounds-absorb_end-end c = simp length-take (omega arith)

pub absorb_end-requires : goal.absorb_end-requires
absorb_end-requires c = (simp length-take (omega arith), simp length-take (omega arith))

pub absorb_aligned-requires-2 : goal.absorb_aligned-requires-2
absorb_aligned-requires-2 c =
    let h = c.absorb_end in
    let z = c.args in
    let e : h.result.len ≡ z.self.len + (64 - z.self.len % 64) = len_after z.self h.result _ h.ensures
    ∙ rw (length-take-le (64 - z.self.len % 64) z.s.now (omega arith)) in
    (omega arith, simp (length-take, length-drop) (omega arith))

pub returns : goal.returns
returns c =
    let h = c.absorb_end in
    let z = c.args in
    in_two z.self h.result c.absorb_aligned-2.result z.s.now (64 - z.self.len % 64) h.ensures c.absorb_aligned-2.ensures
