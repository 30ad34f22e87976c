-- `elements_size`: the size of the first i elements.
use Rattle.std.proofs.Common.{◌≡◌, ◌<◌, length, sym, ap, ◌∙◌, arith, take_all}
use Rattle.centralized_telescope.specs.core.Elements.{Element, elements, element_at}
use Rattle.centralized_telescope.specs.inner.Held.{held}
use Rattle.centralized_telescope.specs.later.ElementBytes.{element_bytes}
use Rattle.centralized_telescope.specs.laws.ElementsLaws.{length_elements, few_elements}
use Rattle.centralized_telescope.proofs.ElementWriting.{no_bytes, size_most, size_more}
use Rattle.centralized_telescope.proofs.element_bytes.elements_size.Goals as goal

pub loop-i-init : goal.loop-i-init
loop-i-init c = (omega arith, sym (ap length no_bytes))

inside : (c : goal.After-element_size-size) → c.loop-i.i < length c.args.list.ends.now
inside c = omega (arith, c.loop-i-test.true, c.len-i-end.ensures)

-- the element's size
size_is : (c : goal.After-element_size-size)
    → c.element_size-size.result ≡ length (element_bytes (element_at (elements (held c.args.list)) c.loop-i.i))
size_is c = c.element_size-size.ensures ∙ ap (λ (e : Element). length (element_bytes e)) c.element.ensures

pub overflow_add-size : goal.overflow_add-size
overflow_add-size c =
    let list = c.args.list in
    omega (arith, c.loop-i.invariant.0, inside c, few_elements (held list) list.accepted, size_is c, size_most (held list) list.accepted c.loop-i.i (inside c))

pub loop-i-preserved : goal.loop-i-preserved
loop-i-preserved c =
    let list = c.args.list in (
      omega (arith, c.loop-i.invariant.0, size_is c, size_most (held list) list.accepted c.loop-i.i (inside c)),
      omega (arith, c.loop-i.invariant.1, size_is c, size_more (held list) list.accepted c.loop-i.i (inside c)),
    )

pub returns : goal.returns
returns c =
    let list = c.args.list in
    let l = c.loop-i in
    let e = take_all l.i (elements (held list)) (omega (arith, length_elements (held list) list.accepted, c.loop-i-test.false, c.len-i-end.ensures)) in
    (rw e at l.invariant.1, omega (arith, l.invariant.0, l.auto.i-end, c.len-i-end.ensures))
