-- `write_elements`: the elements at the first i places are written, and `used` is how many data bytes they took.
use Rattle.std.proofs.Common.{length, ap, arith, rules}
use lib.ListN.{length-map}
use Rattle.centralized_telescope.specs.core.Elements.{Element, elements, element_at}
use Rattle.centralized_telescope.specs.inner.Held.{held}
use Rattle.centralized_telescope.specs.later.ProofList.{chosen}
use Rattle.centralized_telescope.specs.later.Buffers.{buffers_held}
use Rattle.centralized_telescope.proofs.ProofWriting.{chosen_rooms, in_list, one_chosen, chosen_read, none_written, data_fits}
use Rattle.centralized_telescope.proofs.ProofWriting.{rooms_now, one_written, all_written}
use Rattle.centralized_telescope.proofs.proof_list.write_elements.Goals as goal

pub loop-i-init : goal.loop-i-init
loop-i-init c = (omega arith, search rules, none_written (buffers_held c.args.out.now))

pub element-element-requires : goal.element-element-requires
element-element-requires c = in_list c.args.places.now (held c.args.list) c.loop-i.i (search rules) _ c.wide.ensures.0 c.requires.1

pub copy_at-requires : goal.copy_at-requires
copy_at-requires c =
    let l = c.loop-i in
    let ps = c.args.places.now in
    let list = held c.args.list in
    let room = chosen_rooms ps list _ c.requires.2 in
    let there = one_chosen ps list l.i (search rules) _ c.wide.ensures.0 in
    let own = chosen_read ps list l.i (search rules) _ c.wide.ensures.0 _ c.element-element.ensures in
    let now = rooms_now (chosen ps list) _ room l.i there _ _ l.invariant.2 in
    let fits = data_fits (chosen ps list) _ room l.i there _ _ l.invariant.2 in
    omega (arith, ap (λ (e : Element). length e.bytes) own, now.data_room, fits)

pub put-requires : goal.put-requires
put-requires c =
    let l = c.loop-i in
    let ps = c.args.places.now in
    let list = held c.args.list in
    let room = chosen_rooms ps list _ c.requires.2 in
    let there = one_chosen ps list l.i (search rules) _ c.wide.ensures.0 in
    let now = rooms_now (chosen ps list) _ room l.i there _ _ l.invariant.2 in (
      omega (arith, now.ends_room, there),
      omega (arith, now.marks_room, there),
      omega (arith, now.indexes_room, there),
      omega (arith, l.invariant.0, c.element-element.result.short, c.requires.0),
    )

pub loop-i-preserved : goal.loop-i-preserved
loop-i-preserved c =
    let l = c.loop-i in
    let ps = c.args.places.now in
    let list = held c.args.list in
    let room = chosen_rooms ps list _ c.requires.2 in
    let there = one_chosen ps list l.i (search rules) _ c.wide.ensures.0 in
    let own = chosen_read ps list l.i (search rules) _ c.wide.ensures.0 _ c.element-element.ensures in (
      omega (arith, l.invariant.0, c.element-element.result.short),
      search rules,
      one_written (chosen ps list) _ room l.i there _ _ l.invariant.2 _ own _ c.copy_at.ensures _ c.put.ensures.put,
    )

pub returns-clause-written : goal.returns-clause-written
returns-clause-written c =
    let ps = c.args.places.now in
    let list = held c.args.list in
    all_written (chosen ps list) _ _ _ c.loop-i.i (omega (arith, length-map ps (element_at (elements list)))) c.loop-i.invariant.2
