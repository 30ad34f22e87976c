-- `u128_of`: each half is made of its 8 bytes, and both of all 16.
use Rattle.std.proofs.Common.{◌-◌, arith, length-take}
use Rattle.sampling.proofs.TwoHalves.{sixteen_bytes, first_read, second_read}
use Rattle.sampling.proofs.sample.u128_of.Goals as goal

pub slice_bounds-number_of-end : goal.slice_bounds-number_of-end
slice_bounds-number_of-end c = simp length-take (omega (arith, c.well_formed.0.1))

pub returns : goal.returns
returns c =
    let s = c in
    let o = s in
    let h = o.args.h in
    let first = first_read h o.well_formed.0.1.0.1 s.number_of-hi.result s.number_of-hi.ensures.0 in (
      first,
      sixteen_bytes h s.number_of-hi.result c.number_of-lo.result first
          (second_read h o.well_formed.0.1.0.1 c.number_of-lo.result (16 - 8) (omega arith) c.number_of-lo.ensures.0),
    )
