-- `element`: its start and end are within the data, since no end falls or passes the data.
use Rattle.std.proofs.Common.{◌∙◌, sym, arith}
use Rattle.centralized_telescope.specs.core.Exports.{numbered}
use Rattle.centralized_telescope.specs.inner.BytesHeld.{bytes_held}
use Rattle.centralized_telescope.specs.inner.ListReading.{data_at}
use Rattle.centralized_telescope.specs.laws.ElementsLaws.{ends_right, start_before_end, end_within, data_short, element_there, same_parts}
use Rattle.centralized_telescope.proofs.ExportAnswers.{end_there}
use Rattle.centralized_telescope.proofs.exports.AcceptedBytesListed.element.Goals as goal

pub slice_bounds-result-count : goal.slice_bounds-result-count
slice_bounds-result-count c =
    let list = c.args.self.now in
    let lent = numbered (bytes_held list.lent) in
    omega (
      arith,
      start_before_end lent.bytes lent.ends (ends_right lent list.accepted) c.args.place
          (end_there _ _ _ _ list.accepted c.args.place c.requires),
    )

pub slice_bounds-result-start : goal.slice_bounds-result-start
slice_bounds-result-start c =
    let list = c.args.self.now in
    let lent = numbered (bytes_held list.lent) in
    omega (
      arith,
      start_before_end lent.bytes lent.ends (ends_right lent list.accepted) c.args.place
          (end_there _ _ _ _ list.accepted c.args.place c.requires),
    )

pub slice_bounds-result-end : goal.slice_bounds-result-end
slice_bounds-result-end c =
    let list = c.args.self.now in
    let lent = numbered (bytes_held list.lent) in
    omega (
      arith,
      end_within lent.bytes lent.ends (ends_right lent list.accepted) c.args.place
          (end_there _ _ _ _ list.accepted c.args.place c.requires),
    )

pub invariant_of-result : goal.invariant_of-result
unfolding data_at
invariant_of-result c =
    let list = c.args.self.now in
    record {
      short = rw (c.end_at-end.ensures, c.start_in_bytes-start.ensures)
          (data_short (numbered (bytes_held list.lent)) list.accepted c.args.place
          (end_there _ _ _ _ list.accepted c.args.place c.requires));
    }

pub returns : goal.returns
unfolding data_at
returns c =
    let list = c.args.self.now in
    same_parts (rw (c.end_at-end.ensures, c.start_in_bytes-start.ensures)) c.index_at.ensures
    ∙ sym (element_there (numbered (bytes_held list.lent)) list.accepted c.args.place
    (end_there _ _ _ _ list.accepted c.args.place c.requires))
