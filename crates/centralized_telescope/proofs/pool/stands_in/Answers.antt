-- `stands_in`: what is in front of `low` stands before the element sought, what is from `high` on behind it.
use Rattle.std.proofs.Common.{sym, ◌∙◌, arith}
use Rattle.centralized_telescope.proofs.Sought.{seek_begins, right_of, left_of, sought_found, sought_nowhere}
use Rattle.centralized_telescope.proofs.pool.stands_in.Goals as goal

pub loop-low-init : goal.loop-low-init
loop-low-init c =
    let a = c.args in
    seek_begins a.list a.list2 a.keys.now c.requires.0 a.place c.requires.1 c.key_of-key.result c.key_of-key.ensures

pub offset_bounds-keys-middle : goal.offset_bounds-keys-middle
offset_bounds-keys-middle c = omega (arith, c.loop-low.invariant.within)

pub bounds-keys-middle : goal.bounds-keys-middle
bounds-keys-middle c = omega (arith, c.loop-low.invariant.within)

pub loop-low-preserved-in-Less : goal.loop-low-preserved-in-Less
loop-low-preserved-in-Less c =
    let a = c.args in
    right_of a.list a.list2 a.keys.now c.requires.0 a.place c.requires.1 c.key_of-key.result c.key_of-key.ensures
    c.loop-low.invariant _ (omega arith) (omega arith) (sym c.compare.ensures ∙ c.in-Less.is)

pub loop-low-preserved : goal.loop-low-preserved
loop-low-preserved c =
    let a = c.args in
    left_of a.list a.list2 a.keys.now c.requires.0 a.place c.requires.1 c.key_of-key.result c.key_of-key.ensures
    c.loop-low.invariant _ (omega arith) (omega arith) (sym c.compare.ensures ∙ c.in-Greater.is)

pub returns-in-Equal : goal.returns-in-Equal
returns-in-Equal c =
    let a = c.args in
    sought_found a.list a.list2 a.keys.now c.requires.0 a.place c.requires.1 c.key_of-key.result c.key_of-key.ensures
    _ (omega (arith, c.loop-low.invariant.within)) (sym c.compare.ensures ∙ c.in-Equal.is)

pub returns : goal.returns
returns c =
    let a = c.args in
    sought_nowhere a.list a.list2 a.keys.now c.requires.0 a.place c.requires.1 c.key_of-key.result c.key_of-key.ensures
    c.loop-low.invariant (omega arith)
