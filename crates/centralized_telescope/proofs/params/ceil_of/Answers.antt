-- `ceil_of`: the floor, and one more where it is below x.
use Rattle.std.proofs.Common.{◌^◌, ◌≤◌, true, false, arith}
use Rattle.centralized_telescope.specs.laws.SmallCaseLaws.{inside, floor_most}
use Rattle.centralized_telescope.proofs.Whole.{counted, ceiling}
use Rattle.centralized_telescope.proofs.params.ceil_of.Goals as goal

most : (c : goal.After-row_known-1) → c.floor_of-t.result ≤ 2 ^ 52
most c = rw c.floor_of-t.ensures (floor_most (2 ^ 52) c.args.x (inside (2 ^ 52) c.args.x c.requires))

pub int_to_float-t : goal.int_to_float-t
int_to_float-t c = counted c.floor_of-t.result (most c)

most_2 : (c : goal.Then-t-x) → c.floor_of-t.result ≤ 2 ^ 52
most_2 c = rw c.floor_of-t.ensures (floor_most (2 ^ 52) c.args.x (inside (2 ^ 52) c.args.x c.requires))

pub overflow_add-result : goal.overflow_add-result
overflow_add-result c = omega (arith, most_2 c)

pub returns-then-t-x : goal.returns-then-t-x
returns-then-t-x c =
    let f = c in
    let x = f.args.x in
    ceiling x true f.floor_of-t.result (inside (2 ^ 52) x f.requires) f.floor_of-t.ensures c.if-t-x.true

pub returns : goal.returns
returns c =
    let f = c in
    let x = f.args.x in
    ceiling x false f.floor_of-t.result (inside (2 ^ 52) x f.requires) f.floor_of-t.ensures c.if-t-x.false
