-- `find_in_ends`: what is found before i, and what is left to find behind it, make what there is to find.
use Rattle.std.proofs.Common.{◌≡◌, ◌<◌, ◌≤◌, ◌||◌, ltb, length, arith, le-ltb, lt-ltb}
use Rattle.centralized_telescope.proofs.ListFaults.{end_next, data_next, ends_done, data_done}
use Rattle.centralized_telescope.proofs.types.find_in_ends.Goals.{then-end-from, else-end-from}
use Rattle.centralized_telescope.proofs.types.find_in_ends.Goals as goal

pub loop-i-preserved : goal.loop-i-preserved
loop-i-preserved g c =
    let l = c.loop-i in
    let x = c.end_at-end.result in
    let h : l.i < length g.ends = omega arith in
    let e = c.requires.1.1.1 l.i x (omega arith) c.end_at-end.ensures in
    let wrong : c.if-end-from.wrong ≡ ltb x l.from || ltb c.args.limit x =
    elim c.if-end-from.branch [
      | then-end-from w ↦ rw (w.wrong-is, lt-ltb x l.from w.if-end-from.true)
      | else-end-from w ↦ rw (w.wrong-is, le-ltb x l.from w.if-end-from.false)
    ] in (
      end_next g.ends l.i l.from l.wrong _ x h e c.args.limit _ wrong l.invariant.0,
      data_next g.ends l.i l.from l.long _ x h e _ (rw c.saturating_sub.ensures) l.invariant.1,
    )

pub returns : goal.returns
returns g c =
    let l = c.loop-i in
    let h : length g.ends ≤ l.i = omega arith in
    record {
      wrong = ends_done g.ends l.i l.from l.wrong _ h c.args.limit l.invariant.0;
      long = data_done g.ends l.i l.from l.long _ h l.invariant.1;
    }
