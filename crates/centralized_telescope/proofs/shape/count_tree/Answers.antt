-- `count_tree`: the chains from the start round on, if there is one.
use Rattle.std.proofs.Common.{arith}
use Rattle.centralized_telescope.specs.laws.RefusalsLaws.{handed_on}
use Rattle.centralized_telescope.specs.laws.TryLaws.{id_below}
use Rattle.centralized_telescope.specs.inner.Visit.{try_held}
use Rattle.centralized_telescope.proofs.Walked.{round_drawn}
use Rattle.centralized_telescope.proofs.Tallying.{none_few}
use Rattle.centralized_telescope.proofs.ShapeAnswers.{start_counts, start_missing}
use Rattle.centralized_telescope.proofs.shape.count_tree.Goals as goal

pub count_from-requires : goal.count_from-requires
count_from-requires c = record {
  id_below = id_below (try_held c.args.t.now) _ _ (round_drawn (try_held c.args.t.now) _ _ c.round_of.ensures c.in-Some.is).id_is;
  deep = omega arith;
  few = rw c.new-tally.ensures none_few;
  within = rw c.new-tally.ensures (omega arith);
}

pub returns-in_err-count_from-clause-number : goal.returns-in_err-count_from-clause-number
returns-in_err-count_from-clause-number c =
    rw (handed_on _ c.from_residual.result c.from_residual.ensures.1)
    (start_counts (try_held c.args.t.now) c.args.search.0 c.start_hash.ensures c.round_of.ensures c.in-Some.is c.new-tally.ensures
    c.in_err-count_from.ensures).number_is

pub returns-in_ok-count_from-clause-number : goal.returns-in_ok-count_from-clause-number
returns-in_ok-count_from-clause-number c =
    (start_counts (try_held c.args.t.now) c.args.search.0 c.start_hash.ensures c.round_of.ensures c.in-Some.is c.new-tally.ensures
    c.in_ok-count_from.ensures).number_is

pub returns-in_ok-count_from-clause-counted : goal.returns-in_ok-count_from-clause-counted
returns-in_ok-count_from-clause-counted c =
    (start_counts (try_held c.args.t.now) c.args.search.0 c.start_hash.ensures c.round_of.ensures c.in-Some.is c.new-tally.ensures
    c.in_ok-count_from.ensures).counted

pub returns-in_default-clause-number : goal.returns-in_default-clause-number
returns-in_default-clause-number c =
    (start_missing (try_held c.args.t.now) c.args.search.0 c.start_hash.ensures c.round_of.ensures c.in_default.is
    c.new-tally.ensures).number_is

pub returns-in_default-clause-counted : goal.returns-in_default-clause-counted
returns-in_default-clause-counted c =
    (start_missing (try_held c.args.t.now) c.args.search.0 c.start_hash.ensures c.round_of.ensures c.in_default.is
    c.new-tally.ensures).counted
