-- `check_bytes`: the answer by what is found.
use Rattle.std.proofs.Common.{◌/◌, length, sym, ◌∙◌}
use Rattle.centralized_telescope.specs.core.Exports.{numbered}
use Rattle.centralized_telescope.specs.inner.BytesHeld.{bytes_held}
use Rattle.centralized_telescope.proofs.ListAnswers.{found}
use Rattle.centralized_telescope.proofs.NumbersRead.{length_numbers_in}
use Rattle.centralized_telescope.proofs.exports.check_bytes.Goals as goal

pub returns : goal.returns
returns c =
    let list = c.args.list in
    let k = list.indexes.now in
    let ends = c.find_in_bytes.ensures in
    c.list_answer.ensures
    ∙ found (numbered (bytes_held list)) _ _ _ _ _ c.end_count.ensures (sym (length_numbers_in (length k / 8) 8 k))
    c.some_mark_over.ensures ends.wrong ends.long
