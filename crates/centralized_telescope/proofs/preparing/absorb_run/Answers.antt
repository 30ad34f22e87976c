-- `absorb_run`: the head, then the elements, each behind what is gathered.
use Rattle.std.proofs.Common.{sym, ◌∙◌, arith}
use Rattle.centralized_telescope.specs.core.Elements.{elements}
use Rattle.centralized_telescope.specs.inner.Held.{held, element_read}
use Rattle.centralized_telescope.specs.laws.ElementsLaws.{length_elements, few_elements}
use Rattle.centralized_telescope.proofs.RunHashing.{Roomy, put_room, none_gathered, room_made, one_gathered, all_gathered}
use Rattle.centralized_telescope.proofs.preparing.absorb_run.Goals as goal
use Rattle.centralized_telescope.proofs.preparing.absorb_run.Goals.{then-used-element, else-used-element}

pub absorb_head-hasher-requires : goal.absorb_head-hasher-requires
absorb_head-hasher-requires c =
    let list = c.args.run.list in omega (arith, c.len.ensures, few_elements (held list) list.accepted)

pub loop-place-init : goal.loop-place-init
loop-place-init c =
    let list = c.args.run.list in
    none_gathered c.args.run.settings.params (elements (held list)) c.len.result (length_elements (held list) list.accepted ∙ sym c.len.ensures) _ _
    c.absorb_head-hasher.ensures c.room-gathered.ensures

pub put_element-used-requires : goal.put_element-used-requires
put_element-used-requires c =
    let list = c.args.run.list in
    let e = element_read c.element-element.result in
    let room : Roomy c.args.run.settings.params (elements (held list)) c.loop-place.place e c.if-used-element.hasher c.loop-place.gathered
    c.if-used-element.used
    = elim c.if-used-element.branch [
      | then-used-element w ↦ rw (w.hasher-is, w.used-is) (room_made _ _ _ _ _ _ c.loop-place.invariant e c.element-element.result.short _ w.absorb-hasher.ensures)
      | else-used-element w ↦ rw (w.hasher-is, w.used-is) (c.loop-place.invariant, omega (arith, w.if-used-element.false))
    ] in
    put_room e _ _ room.0.room room.0.within room.1

pub loop-place-preserved : goal.loop-place-preserved
loop-place-preserved c =
    let list = c.args.run.list in
    let e = element_read c.element-element.result in
    let room : Roomy c.args.run.settings.params (elements (held list)) c.loop-place.place e c.if-used-element.hasher c.loop-place.gathered
    c.if-used-element.used
    = elim c.if-used-element.branch [
      | then-used-element w ↦ rw (w.hasher-is, w.used-is) (room_made _ _ _ _ _ _ c.loop-place.invariant e c.element-element.result.short _ w.absorb-hasher.ensures)
      | else-used-element w ↦ rw (w.hasher-is, w.used-is) (c.loop-place.invariant, omega (arith, w.if-used-element.false))
    ] in
    one_gathered _ _ _ e _ _ _ room (omega (arith, length_elements (held list) list.accepted, c.loop-place-test.true, c.len-place-end.ensures))
    c.element-element.ensures _ _ c.put_element-used.auto.out c.put_element-used.ensures

pub returns : goal.returns
returns c =
    let list = c.args.run.list in
    c.absorb.ensures
    ∙ all_gathered _ _ c.loop-place.place _ _ _ c.loop-place.invariant
    (omega (arith, length_elements (held list) list.accepted, c.loop-place-test.false, c.len-place-end.ensures))
