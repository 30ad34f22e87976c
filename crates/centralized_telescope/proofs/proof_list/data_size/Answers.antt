-- `data_size`: `size` is how many data bytes the elements at the first places have.
use Rattle.std.proofs.Common.{length, refl, ap, arith, take_all, rules}
use lib.ListN.{length-map}
use Rattle.centralized_telescope.specs.core.Elements.{Element, elements, element_at}
use Rattle.centralized_telescope.specs.inner.Held.{held}
use Rattle.centralized_telescope.specs.later.ProofList.{joined_data, chosen}
use Rattle.centralized_telescope.proofs.ProofWriting.{joined_more, in_list, one_chosen, chosen_read}
use Rattle.centralized_telescope.proofs.proof_list.data_size.Goals as goal

pub loop-place-init : goal.loop-place-init
unfolding joined_data
loop-place-init c = (omega arith, refl)

pub element-requires : goal.element-requires
element-requires c =
    in_list c.args.places.now (held c.args.list) c.loop-place.place-index (search rules) _ c.wide.ensures.0 c.requires.1

pub loop-place-preserved : goal.loop-place-preserved
loop-place-preserved c =
    let l = c.loop-place in
    let ps = c.args.places.now in
    let list = held c.args.list in
    let own = chosen_read ps list l.place-index (search rules) _ c.wide.ensures.0 _ c.element.ensures in
    let more = joined_more (chosen ps list) l.place-index (one_chosen ps list l.place-index (search rules) _ c.wide.ensures.0) in (
      omega (arith, l.invariant.0, c.element.result.short),
      omega (arith, l.invariant.1, more, ap (λ (e : Element). length e.bytes) own),
    )

pub returns : goal.returns
returns c =
    let ps = c.args.places.now in
    let es = chosen ps (held c.args.list) in
    let all = take_all c.loop-place.place-index es (omega (arith, length-map ps (element_at (elements (held c.args.list))))) in
    rw all at c.loop-place.invariant.1
