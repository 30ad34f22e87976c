-- `element_size`: the head by the mark, and the data.
use Rattle.std.proofs.Common.{◌≡◌, ◌+◌, ◌*◌}
use Rattle.centralized_telescope.specs.inner.Held.{element_read, option_of}
use Rattle.centralized_telescope.specs.later.Words.{mark_of}
use Rattle.centralized_telescope.proofs.ElementWriting.{size_is}
use Rattle.centralized_telescope.proofs.element_bytes.element_size.Goals as goal
use Rattle.centralized_telescope.proofs.element_bytes.element_size.Goals.{in-None, in-Some}

pub returns : goal.returns
returns c =
    let marked : c.match-element.head ≡ 5 + 8 * mark_of (option_of c.args.element.index) = elim c.match-element.branch [
      | in-None w ↦ rw w.in-None.is w.head-is
      | in-Some w ↦ rw w.in-Some.is w.head-is
    ] in
    size_is (element_read c.args.element) c.match-element.head marked
