-- `start_of`: 0 at the first place, else the end before it.
use Rattle.std.proofs.Common.{◌-◌, sym, ◌∙◌, arith}
use Rattle.centralized_telescope.specs.inner.ListReading.{start_at}
use Rattle.centralized_telescope.specs.laws.ElementsLaws.{start_later}
use Rattle.centralized_telescope.proofs.types.start_of.Goals as goal

pub returns-then-place-eq0 : goal.returns-then-place-eq0
unfolding start_at
returns-then-place-eq0 g c = rw c.if-place-eq0.true

pub returns : goal.returns
returns g c =
    let z = c.args in
    c.requires.1.1.1 (z.place - 1) _ (omega arith) c.end_at.ensures ∙ sym (start_later g.ends z.place c.if-place-eq0.false)
