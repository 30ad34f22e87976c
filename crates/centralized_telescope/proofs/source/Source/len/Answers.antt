-- `len`: those of the first list, and those added.
use Rattle.std.proofs.Common.{arith}
use Rattle.centralized_telescope.specs.inner.SourceHeld.{source_held}
use Rattle.centralized_telescope.specs.laws.SourceLaws.{readable, source_length, source_few}
use Rattle.centralized_telescope.proofs.source.Source.len.Goals as goal

pub overflow_add-result : goal.overflow_add-result
overflow_add-result c = let s = c.args.self.now in omega (arith, source_few (source_held s) (readable s))

pub returns : goal.returns
returns c =
    let s = c.args.self.now in
    record {
      exact = rw c.len.ensures (source_length (source_held s) (readable s));
      few = rw c.len.ensures (source_few (source_held s) (readable s));
    }
