-- `list_added`: which of the places before `place` are added.
use Rattle.std.proofs.Common.{sym, ◌∙◌, arith}
use Rattle.centralized_telescope.specs.inner.Held.{held}
use Rattle.centralized_telescope.specs.laws.ElementsLaws.{few_elements}
use Rattle.centralized_telescope.proofs.AddedPlaces.{add_begins, add_none, add_over, add_place, add_ends}
use Rattle.centralized_telescope.proofs.pool.list_added.Goals as goal
use Rattle.centralized_telescope.proofs.pool.list_added.Goals.{then-not-stands_in+else-most-count, else-not-stands_in}

pub overflow_sub-most : goal.overflow_sub-most
overflow_sub-most c = omega (arith, c.len-most.ensures, few_elements (held c.args.list) c.args.list.accepted)

pub loop-place-init : goal.loop-place-init
loop-place-init c =
    let a = c.args in
    add_begins (held a.list) (held a.list2) a.list.accepted a.list2.accepted a.added.now c.requires.1

pub returns : goal.returns
returns c =
    let a = c.args in
    add_ends (held a.list) (held a.list2) a.list.accepted a.list2.accepted c.loop-place.invariant (omega arith)

pub returns-then-most-count : goal.returns-then-most-count
returns-then-most-count c =
    let a = c.args in
    add_over (held a.list) (held a.list2) a.list.accepted a.list2.accepted c.loop-place.invariant (omega arith)
    (sym c.if-not-stands_in.true ∙ c.stands_in.ensures) (omega arith)

pub overflow_cast-added : goal.overflow_cast-added
overflow_cast-added c = omega (arith, few_elements (held c.args.list2) c.args.list2.accepted)

pub loop-place-preserved : goal.loop-place-preserved
loop-place-preserved c =
    let a = c.args in
    let v = c.loop-place.invariant in
    elim c.if-not-stands_in.branch [
      | then-not-stands_in+else-most-count w ↦
          rw (w.added-is, w.count-is)
          (add_place (held a.list) (held a.list2) a.list.accepted a.list2.accepted v (omega arith)
          (sym w.if-not-stands_in.true ∙ c.stands_in.ensures)
          (omega (arith, w.if-most-count.false, few_elements (held a.list) a.list.accepted)))
      | else-not-stands_in w ↦
          rw (w.added-is, w.count-is)
          (add_none (held a.list) (held a.list2) a.list.accepted a.list2.accepted v (omega arith)
          (sym w.if-not-stands_in.false ∙ c.stands_in.ensures))
    ]
