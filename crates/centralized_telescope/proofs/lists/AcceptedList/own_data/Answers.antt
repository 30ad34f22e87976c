-- `own_data`: the start and the end are within the data, since no end falls or passes the data.
use Rattle.std.proofs.Common.{sym, arith}
use Rattle.centralized_telescope.specs.inner.Held.{held}
use Rattle.centralized_telescope.specs.inner.ListReading.{data_at}
use Rattle.centralized_telescope.specs.laws.ElementsLaws.{ends_right, start_before_end, end_within, data_short, data_there}
use Rattle.centralized_telescope.proofs.lists.AcceptedList.own_data.Goals as goal

pub slice_bounds-result-count : goal.slice_bounds-result-count
slice_bounds-result-count c =
    let list = c.args.self in
    omega (arith, start_before_end list.«data».now list.ends.now (ends_right (held list) list.accepted) c.args.place c.requires)

pub slice_bounds-result-start : goal.slice_bounds-result-start
slice_bounds-result-start c =
    let list = c.args.self in
    omega (arith, start_before_end list.«data».now list.ends.now (ends_right (held list) list.accepted) c.args.place c.requires)

pub slice_bounds-result-end : goal.slice_bounds-result-end
slice_bounds-result-end c =
    let list = c.args.self in
    omega (arith, end_within list.«data».now list.ends.now (ends_right (held list) list.accepted) c.args.place c.requires)

pub returns-clause-data : goal.returns-clause-data
unfolding data_at
returns-clause-data c =
    let list = c.args.self in
    rw (c.wide-end.ensures.0, c.start_of-start.ensures) (sym (data_there (held list) list.accepted c.args.place c.requires))

pub returns-clause-short : goal.returns-clause-short
unfolding data_at
returns-clause-short c =
    let list = c.args.self in
    rw (c.wide-end.ensures.0, c.start_of-start.ensures) (data_short (held list) list.accepted c.args.place c.requires)
