-- `prove_index`: from the search counter s on, the try gives what the whole of it is to give.
use Rattle.std.proofs.Common.{ap, arith, length}
use Rattle.centralized_telescope.specs.laws.TryLaws.{id_below}
use Rattle.centralized_telescope.specs.inner.Visit.{try_held}
use Rattle.centralized_telescope.proofs.Walked.{round_drawn}
use Rattle.centralized_telescope.proofs.OneTry.{try_begins, all_tried, bound_reached, Starting, try_nothing, try_missing, try_found}
use Rattle.centralized_telescope.proofs.search.prove_index.Goals as goal
use Rattle.centralized_telescope.proofs.search.prove_index.Goals.{in-Some+in-Continue, in_default}

pub loop-s-init : goal.loop-s-init
loop-s-init c = try_begins (try_held c.args.t.now) c.args.places.now

pub returns-then-settings-count : goal.returns-then-settings-count
returns-then-settings-count c = bound_reached c.loop-s.invariant c.if-settings-count.true

pub visit-requires-clause-can : goal.visit-requires-clause-can
visit-requires-clause-can c = record {
  roomy = omega (arith, c.requires, ap length c.loop-s.invariant.as_lent);
  id_below = id_below (try_held c.args.t.now) _ _ (round_drawn (try_held c.args.t.now) _ _ c.round_of.ensures c.in-Some.is).id_is;
  deep = omega arith;
  within = c.if-settings-count.false;
}

pub returns-in-Break : goal.returns-in-Break
returns-in-Break c =
    let l = c.loop-s in
    let k : Starting (try_held c.args.t.now) l.s l.count l.places c.args.places.now c.start_hash.result c.round_of.result = record {
      head = l.invariant;
      inside = c.loop-s-test.true;
      within = c.if-settings-count.false;
      hash_is = c.start_hash.ensures;
      round_is = c.round_of.ensures;
    } in
    try_found k c.in-Some.is c.visit.ensures.ends c.in-Break.is

-- on by a visit that found nothing, or where the round doesn't exist
pub loop-s-preserved : goal.loop-s-preserved
loop-s-preserved c =
    let l = c.loop-s in
    let k : Starting (try_held c.args.t.now) l.s l.count l.places c.args.places.now c.start_hash.result c.round_of.result = record {
      head = l.invariant;
      inside = c.loop-s-test.true;
      within = c.if-settings-count.false;
      hash_is = c.start_hash.ensures;
      round_is = c.round_of.ensures;
    } in
    elim c.match-round_of.branch [
      | in-Some+in-Continue w ↦ try_missing k w.in-Some.is w.visit.ensures.ends w.in-Continue.is _ _ w.count-is w.places-is
      | in_default w ↦ try_nothing k w.in_default.is _ _ w.count-is w.places-is
    ]

pub returns : goal.returns
returns c = all_tried c.loop-s.invariant c.loop-s-test.false
