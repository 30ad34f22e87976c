-- `small_settings`: each figure is in range, and is what the definition says.
use Rattle.std.proofs.Common.{◌≡◌, ◌-◌, ◌^◌, arith, lit≤}
use Rattle.centralized_telescope.specs.later.SmallCase.{before_ceil, before_floor, search_width}
use Rattle.centralized_telescope.specs.laws.ParamsLaws.{one_to}
use Rattle.centralized_telescope.specs.laws.SmallCaseLaws.{wider, in_range, width_most}
use Rattle.centralized_telescope.proofs.Whole.{counted}
use Rattle.centralized_telescope.proofs.Figures.{before_ceil_is, before_floor_is, width_is, settings_are}
use Rattle.centralized_telescope.proofs.params.small_settings.Goals as goal

pub int_to_float-size : goal.int_to_float-size
int_to_float-size c = counted c.args.u (omega (arith, (one_to c.requires.0).1))

pub ceil_of-max_retries-requires : goal.ceil_of-max_retries-requires
ceil_of-max_retries-requires c = wider 65535 (2 ^ 52) c.args.c (lit≤ tt) c.requires.1

pub ceil_of-search_width-requires : goal.ceil_of-search_width-requires
ceil_of-search_width-requires c =
    let s = c in
    let u = s.args.u in
    rw (before_ceil_is u) (wider (2 ^ 32 - 1) (2 ^ 52) (before_ceil u) (lit≤ tt) (in_range u s.requires.0).before_ceil_lem)

width : (c : goal.After-row_known-2-1) → c.ceil_of-search_width.result ≡ search_width c.args.u
width c = width_is c.args.u c.ceil_of-search_width.result c.ceil_of-search_width.ensures

pub int_to_float-d : goal.int_to_float-d
int_to_float-d c =
    let s = c in
    counted c.ceil_of-search_width.result (rw (width c) (omega (arith, width_most s.args.u s.requires.0)))

pub floor_of-dfs_bound-requires : goal.floor_of-dfs_bound-requires
floor_of-dfs_bound-requires c =
    let s = c in
    let u = s.args.u in
    rw (before_floor_is u c.ceil_of-search_width.result, width c)
    (wider (2 ^ 48) (2 ^ 52) (before_floor u (search_width u)) (lit≤ tt) (in_range u s.requires.0).before_floor_lem)

width_2 : (c : goal.After-x_of) → c.ceil_of-search_width.result ≡ search_width c.args.u
width_2 c = width_is c.args.u c.ceil_of-search_width.result c.ceil_of-search_width.ensures

pub returns : goal.returns
returns c =
    let d = c in
    let s = d in
    settings_are s.args.u d.ceil_of-search_width.result s.args.c d.ceil_of-max_retries.result c.floor_of-dfs_bound.result
    c.x_of.result d.ceil_of-max_retries.ensures (width_2 d) c.floor_of-dfs_bound.ensures c.x_of.ensures
