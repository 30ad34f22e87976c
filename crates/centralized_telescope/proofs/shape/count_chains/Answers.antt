-- `count_chains`: the refusals, the bin table, then the tally of the search counter's chains.
use Rattle.std.proofs.Common.{ℕ, ◌+◌, List, ◌++◌, length, take, drop, sym, ap, ◌∙◌, arith, length-take-le}
use Rattle.centralized_telescope.specs.declared.params.Params.{Params}
use Rattle.centralized_telescope.specs.core.Elements.{elements}
use Rattle.centralized_telescope.specs.core.LentLists.{lent}
use Rattle.centralized_telescope.specs.laws.ParamsLaws.{lawful}
use Rattle.centralized_telescope.specs.laws.RefusalsLaws.{handed_on}
use Rattle.centralized_telescope.specs.later.Shape.{shape_of}
use Rattle.centralized_telescope.specs.inner.Source.{meant}
use Rattle.centralized_telescope.specs.inner.SourceHeld.{source_held}
use Rattle.centralized_telescope.proofs.ManyTries.{filled_has}
use Rattle.centralized_telescope.proofs.ShapeAnswers.{shape_refused, unrefused, past_so, within_so, tally_long}
use Rattle.centralized_telescope.proofs.shape.count_chains.Goals as goal

pub returns-in_err-run : goal.returns-in_err-run
returns-in_err-run c =
    let a = c.args in
    rw (handed_on _ c.from_residual.result c.from_residual.ensures.1)
    (sym (shape_refused a.p a.retry_counter.0 a.search_counter.0 (lent a.list) a.counts.now a.table.now _
    (sym c.in_err-run.ensures.number)))

pub fill_table-requires : goal.fill_table-requires
fill_table-requires c =
    let a = c.args in
    let s = c.in_ok-run.run'.settings in
    let u = unrefused a.p (lent a.list) (length a.counts.now) (length a.table.now) (sym c.in_ok-run.ensures.number) in (
      (lawful s.params s.lawful).set_size.1,
      omega (arith, u.table_enough, ap (λ (p : Params). p.set_size) c.in_ok-run.ensures.run.settings_are),
    )

pub invariant_of-ready : goal.invariant_of-ready
invariant_of-ready c = record {
  has_table =
      filled_has c.in_ok-run.run'.settings.params (source_held c.of_list-source.result) c.args.retry_counter.0 _ c.args.table.now
      c.fill_table.ensures;
}

pub returns-in_err-tally : goal.returns-in_err-tally
returns-in_err-tally c =
    let a = c.args in
    rw (handed_on _ c.from_residual-in_err-tally.result c.from_residual-in_err-tally.ensures.1)
    (ap (shape_of _ 0 a.counts.now) c.fill_table.ensures
    ∙ past_so a.p c.in_ok-run.run'.settings.params c.in_ok-run.ensures.run.settings_are (lent a.list)
    (meant (source_held c.of_list-source.result))
    (c.of_list-source.ensures ∙ ap elements c.in_ok-run.ensures.run.list_is) a.retry_counter.0 a.search_counter.0 a.counts.now a.table.now
    (sym c.in_ok-run.ensures.number) _ c.in_err-tally.ensures.number)

pub slice_bounds-copy_from_slice-end : goal.slice_bounds-copy_from_slice-end
slice_bounds-copy_from_slice-end c =
    let a = c.args in
    let u = unrefused a.p (lent a.list) (length a.counts.now) (length a.table.now) (sym c.in_ok-run.ensures.number) in
    omega (arith, u.counts_enough, c.lengths_of-lengths.ensures.0, ap (λ (p : Params). p.proof_size) c.in_ok-run.ensures.run.settings_are)

pub slice_bounds-copy_from_slice-end-2 : goal.slice_bounds-copy_from_slice-end-2
slice_bounds-copy_from_slice-end-2 c =
    let a = c.args in
    let u = unrefused a.p (lent a.list) (length a.counts.now) (length a.table.now) (sym c.in_ok-run.ensures.number) in
    sym (length-take-le c.lengths_of-lengths.result a.counts.now
    (omega (
      arith,
      u.counts_enough,
      c.lengths_of-lengths.ensures.0,
      ap (λ (p : Params). p.proof_size) c.in_ok-run.ensures.run.settings_are,
    )))

pub copy_from_slice-requires : goal.copy_from_slice-requires
copy_from_slice-requires c =
    let a = c.args in
    let u = unrefused a.p (lent a.list) (length a.counts.now) (length a.table.now) (sym c.in_ok-run.ensures.number) in
    length-take-le c.lengths_of-lengths.result a.counts.now
    (omega (arith, u.counts_enough, c.lengths_of-lengths.ensures.0, ap (λ (p : Params). p.proof_size) c.in_ok-run.ensures.run.settings_are))
    ∙ sym (length-take-le c.lengths_of-lengths.result c.in_ok-tally.tally.lengths
    (omega (arith, c.lengths_of-lengths.ensures.1, tally_long c.in_ok-tally.tally _ _ c.in_ok-tally.ensures.counted)))

pub returns : goal.returns
returns c =
    let a = c.args in
    let q = c.in_ok-run.run'.settings.params in
    let t = c.in_ok-tally.tally in
    ap (λ (counts : List ℕ). shape_of 0 t.passing (counts ++ drop c.lengths_of-lengths.result a.counts.now) c.fill_table.new.table)
    c.copy_from_slice.ensures.after
    ∙ ap (λ (n : ℕ). shape_of 0 t.passing (take n t.lengths ++ drop n a.counts.now) c.fill_table.new.table) c.lengths_of-lengths.ensures.0
    ∙ ap (shape_of 0 t.passing (take (q.proof_size + 1) t.lengths ++ drop (q.proof_size + 1) a.counts.now)) c.fill_table.ensures
    ∙ within_so a.p q c.in_ok-run.ensures.run.settings_are (lent a.list) (meant (source_held c.of_list-source.result))
    (c.of_list-source.ensures ∙ ap elements c.in_ok-run.ensures.run.list_is) a.retry_counter.0 a.search_counter.0 a.counts.now a.table.now
    (sym c.in_ok-run.ensures.number) t c.in_ok-tally.ensures.number c.in_ok-tally.ensures.counted
