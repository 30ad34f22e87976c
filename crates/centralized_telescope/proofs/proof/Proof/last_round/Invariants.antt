-- `last_round`: the chain from the start on is the one from the round reached on, along the elements that are left.
use Rattle.std.proofs.Common.{◌≡◌, drop}
use Rattle.centralized_telescope.specs.core.Verifier.{follow, last_hash}
use Rattle.centralized_telescope.proofs.proof.Proof.last_round.Given as goal

abbrev pub invariant-loop-place : goal.invariant-loop-place
invariant-loop-place g l =
    let es = g.L.Listed.listed l.self.list in
    follow l.p l.self.retry.0 l.round.hash l.round.id (drop l.place es) ≡ last_hash l.p l.self.retry.0 l.self.search.0 es
