-- `prove_routine`: the tries from that of the retry counter r on end as the whole search does.
use Rattle.std.proofs.Common.{arith, ◌∙◌}
use Rattle.centralized_telescope.specs.laws.ParamsLaws.{lawful}
use Rattle.centralized_telescope.specs.inner.Source.{meant}
use Rattle.centralized_telescope.specs.inner.SourceHeld.{source_held}
use Rattle.centralized_telescope.proofs.ManyTries.{tries_begin, none_found, sum_missing, goes_on, sum_found, finds_here, filled_has}
use Rattle.centralized_telescope.proofs.search.prove_routine.Goals as goal
use Rattle.centralized_telescope.proofs.search.prove_routine.Goals.{else-loop-r-test, then-loop-r-test+in-Continue+else-r-r-end}

pub loop-r-init : goal.loop-r-init
loop-r-init c = tries_begin c.args.p.params (meant (source_held c.args.source.now)) c.args.table.now c.args.places.now

pub fill_table-requires : goal.fill_table-requires
fill_table-requires c =
    ((lawful c.args.p.params c.args.p.lawful).set_size.1, omega (arith, c.requires.1, c.loop-r.auto.table))

pub invariant_of-ready : goal.invariant_of-ready
invariant_of-ready c = record {
  has_table = filled_has c.args.p.params (source_held c.args.source.now) c.loop-r.r _ c.loop-r.table c.fill_table.ensures;
}

pub overflow_add-result : goal.overflow_add-result
overflow_add-result c =
    let law = lawful c.args.p.params c.args.p.lawful in
    omega (
      arith,
      sum_found c.loop-r.invariant c.loop-r.auto.r (omega (arith, c.loop-r-test.true)) law.limits.dfs_bound_kept c.fill_table.ensures
          c.prove_index.ensures c.in-Break.is law.limits.max_retries_kept,
    )

pub returns-in-Break : goal.returns-in-Break
returns-in-Break c =
    let law = lawful c.args.p.params c.args.p.lawful in
    finds_here c.loop-r.invariant c.loop-r.auto.r (omega (arith, c.loop-r-test.true)) law.limits.dfs_bound_kept c.fill_table.ensures
    c.prove_index.ensures c.in-Break.is

pub overflow_add-steps : goal.overflow_add-steps
overflow_add-steps c =
    let law = lawful c.args.p.params c.args.p.lawful in
    omega (
      arith,
      sum_missing c.loop-r.invariant c.loop-r.auto.r (omega (arith, c.loop-r-test.true)) law.limits.dfs_bound_kept c.fill_table.ensures
          c.prove_index.ensures c.in-Continue.is law.limits.max_retries_kept,
    )

pub loop-r-preserved : goal.loop-r-preserved
loop-r-preserved c =
    let law = lawful c.args.p.params c.args.p.lawful in
    goes_on c.loop-r.invariant c.loop-r.auto.r (omega (arith, c.loop-r-test.true)) law.limits.dfs_bound_kept c.fill_table.ensures
    c.prove_index.ensures c.in-Continue.is

pub returns : goal.returns
returns c =
    let law = lawful c.args.p.params c.args.p.lawful in
    c.without_proof.ensures c.loop-r-test.places c.loop-r-test.table
    ∙ elim c.loop-r-test.branch [
      | else-loop-r-test w ↦
          rw (w.places-is, w.table-is, w.steps-is) (none_found c.loop-r.invariant (omega (arith, w.loop-r-test.false)))
      | then-loop-r-test+in-Continue+else-r-r-end w ↦
          rw (w.places-is, w.table-is, w.steps-is)
          (none_found (goes_on c.loop-r.invariant c.loop-r.auto.r (omega (arith, w.loop-r-test.true)) law.limits.dfs_bound_kept
          w.fill_table.ensures w.prove_index.ensures w.in-Continue.is) (omega arith))
    ]
