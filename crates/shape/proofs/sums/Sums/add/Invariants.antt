use Rattle.std.proofs.Common.{◌≡◌, ◌-◌, ◌^◌, ◌≤◌, ◌<◌, min, take, slice_index, slice_index_or, ℕ}
use Rattle.std.specs.List.{sum}
use Rattle.shape.specs.Counts.{no_chains, with_count}
use Rattle.shape.proofs.sums.Sums.add.Given as goal

abbrev pub invariant-loop-length : goal.invariant-loop-length
invariant-loop-length l = record {
  before : (k : ℕ) → k < l.length → slice_index_or l.self.lengths k no_chains
      ≡ with_count (slice_index_or l.fn.self.lengths k no_chains) (slice_index l.counts k);
  behind : (k : ℕ) → l.length ≤ k → slice_index_or l.self.lengths k no_chains ≡ slice_index_or l.fn.self.lengths k no_chains;
  all : (l.all ≡ min (sum (take l.length l.counts)) (2 ^ 64 - 1)) × (l.self.all ≡ l.fn.self.all);
  rest : (l.self.named ≡ l.fn.self.named) × (l.self.trees ≡ l.fn.self.trees) × (l.self.left_out ≡ l.fn.self.left_out)
      × (l.self.passing ≡ l.fn.self.passing);
}
