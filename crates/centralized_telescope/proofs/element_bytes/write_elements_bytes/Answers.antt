-- `write_elements_bytes`: the first i elements stand behind what was there up to `from`.
use Rattle.std.proofs.Common.{ℕ, ◌<◌, List, length, take, sym, ap, append-nil, arith, take-append-drop, length-take, length-take-le, take_all}
use Rattle.centralized_telescope.specs.core.Elements.{Element, elements, element_at}
use Rattle.centralized_telescope.specs.inner.Held.{held}
use Rattle.centralized_telescope.specs.inner.Gathering.{Put}
use Rattle.centralized_telescope.specs.later.ElementBytes.{element_bytes}
use Rattle.centralized_telescope.specs.laws.ElementsLaws.{length_elements}
use Rattle.centralized_telescope.proofs.ElementWriting.{no_bytes, behind_within, used_more, element_put}
use Rattle.centralized_telescope.proofs.element_bytes.write_elements_bytes.Goals as goal

pub loop-i-init : goal.loop-i-init
loop-i-init c =
    let z = c.args in
    let front = length-take-le z.from z.out.now (omega (arith, c.requires)) in (
      rw (no_bytes, append-nil (take z.from z.out.now)) (sym front),
      rw (no_bytes, append-nil (take z.from z.out.now), front) (sym (take-append-drop z.from z.out.now)),
    )

pub put_element-used-requires : goal.put_element-used-requires
put_element-used-requires c =
    let z = c.args in
    let l = c.loop-i in
    let inside : l.i < length z.list.ends.now = omega (arith, c.loop-i-test.true, c.len-i-end.ensures) in
    omega (
      arith,
      behind_within (held z.list) z.list.accepted l.i inside (take z.from z.out.now),
      ap (λ (e : Element). length (element_bytes e)) c.element.ensures,
      length-take z.from z.out.now,
      c.requires,
      l.auto.out,
      l.invariant.0,
    )

pub loop-i-preserved : goal.loop-i-preserved
loop-i-preserved c =
    let z = c.args in
    let l = c.loop-i in
    let inside : l.i < length z.list.ends.now = omega (arith, c.loop-i-test.true, c.len-i-end.ensures) in
    let w : List ℕ = take z.from z.out.now in
    let there : Put (element_bytes (element_at (elements (held z.list)) l.i)) l.used l.out c.put_element-used.new.out c.put_element-used.result
    = rw (← c.element.ensures) c.put_element-used.ensures in (
      used_more (held z.list) z.list.accepted l.i inside w z.out.now _ _ _ _ l.invariant.0 there,
      element_put (held z.list) z.list.accepted l.i inside w z.out.now _ _ _ _ l.invariant.0 there l.invariant.1,
    )

pub returns : goal.returns
returns c =
    let list = c.args.list in
    let l = c.loop-i in
    let e = take_all l.i (elements (held list)) (omega (arith, length_elements (held list) list.accepted, c.loop-i-test.false, c.len-i-end.ensures)) in
    rw e at l.invariant.1
