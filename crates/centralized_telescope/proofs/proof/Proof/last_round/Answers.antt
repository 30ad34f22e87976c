-- `last_round`: a place is a round further along the chain, or the chain ends there.
use Rattle.std.proofs.Common.{arith}
use mathlib.Core.Option.{none, some}
use Rattle.centralized_telescope.specs.inner.Held.{element_read}
use Rattle.centralized_telescope.proofs.ChainFollowed.{one_followed, all_followed}
use Rattle.centralized_telescope.proofs.proof.Proof.last_round.Goals as goal

pub returns-in_err-round-2 : goal.returns-in_err-round-2
returns-in_err-round-2 g c =
    let a = c.args in
    let s = a.self.now in
    let r = c.loop-place in
    rw c.from_residual-in_err-round-2.ensures
    (one_followed a.p s.retry.0 r.round.hash r.round.id (g.L.Listed.listed s.list) r.place _ r.invariant
    (omega (arith, c.len-place-end.ensures, c.loop-place-test.true)) (element_read c.element.result) c.element.ensures
    none c.in_err-round-2.ensures)

pub loop-place-preserved : goal.loop-place-preserved
loop-place-preserved g c =
    let a = c.args in
    let s = a.self.now in
    let r = c.loop-place in
    one_followed a.p s.retry.0 r.round.hash r.round.id (g.L.Listed.listed s.list) r.place _ r.invariant
    (omega (arith, c.len-place-end.ensures, c.loop-place-test.true)) (element_read c.element.result) c.element.ensures
    (some c.in_ok-round-2.round) c.in_ok-round-2.ensures

pub returns : goal.returns
returns g c =
    let a = c.args in
    let s = a.self.now in
    let r = c.loop-place in
    all_followed a.p s.retry.0 r.round.hash r.round.id (g.L.Listed.listed s.list) r.place _ r.invariant
    (omega (arith, c.len-place-end.ensures, c.loop-place-test.false))
