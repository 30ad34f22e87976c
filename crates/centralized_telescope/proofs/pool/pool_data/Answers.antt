-- `pool_data`: what stands in the pool at the place.
use Rattle.std.proofs.Common.{◌<◌, List, length, ap, sym, ◌∙◌, arith}
use Rattle.centralized_telescope.specs.core.Elements.{Element, element_at}
use Rattle.centralized_telescope.specs.core.LentLists.{lent}
use Rattle.centralized_telescope.specs.later.Pool.{pool}
use Rattle.centralized_telescope.proofs.PoolAnswers.{data_in, data_past, data_refused}
use Rattle.centralized_telescope.proofs.pool.pool_data.Goals as goal

pub returns-in_default : goal.returns-in_default
returns-in_default c = let a = c.args in sym (data_refused (lent a.list) (lent a.list2) a.place c.in_default.field-0 c.in_default.ensures)

pub returns-then-len-place : goal.returns-then-len-place
returns-then-len-place c =
    let a = c.args in
    let made = c.in-Ok.ensures in
    sym (data_past (lent a.list) (lent a.list2) a.place made.0 (omega (arith, c.len.ensures.exact, ap length made.1)))

pub returns : goal.returns
returns c =
    let a = c.args in
    let made = c.in-Ok.ensures in
    let there : a.place < length (pool (lent a.list) (lent a.list2)) = omega (arith, c.len.ensures.exact, ap length made.1) in
    ap (λ (e : Element). e.bytes) (c.element.ensures ∙ ap (λ (es : List Element). element_at es a.place) made.1)
    ∙ sym (data_in (lent a.list) (lent a.list2) a.place made.0 there)
