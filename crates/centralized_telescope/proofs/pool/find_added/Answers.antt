-- `find_added`: a list has so many elements at most.
use Rattle.std.proofs.Common.{arith}
use Rattle.std.proofs.Math.ListN.{length-take}
use Rattle.centralized_telescope.specs.inner.Held.{held}
use Rattle.centralized_telescope.specs.laws.ElementsLaws.{few_elements}
use Rattle.centralized_telescope.proofs.pool.find_added.Goals as goal

pub slice_bounds-room-end : goal.slice_bounds-room-end
slice_bounds-room-end c = omega (arith, few_elements (held c.args.list) c.args.list.accepted)

pub slice_bounds-keys-end : goal.slice_bounds-keys-end
slice_bounds-keys-end c = omega (arith, few_elements (held c.args.list) c.args.list.accepted, length-take c.len.result c.room-room.result)

pub sort_places-requires : goal.sort_places-requires
sort_places-requires c = omega (arith, few_elements (held c.args.list) c.args.list.accepted, length-take c.len.result c.room-room.result)
