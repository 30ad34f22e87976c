use Rattle.std.proofs.Common.{◌≤◌, ◌<◌, slice_index_or, ℕ}
use Rattle.shape.specs.Counts.{no_chains}
use Rattle.shape.proofs.sums.Sums.greatest_total.Given as goal

abbrev pub invariant-loop-chains : goal.invariant-loop-chains
invariant-loop-chains l = (k : ℕ) → k < l.chains-index → (slice_index_or l.self.lengths k no_chains).total ≤ l.greatest
