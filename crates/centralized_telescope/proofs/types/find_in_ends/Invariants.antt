-- `find_in_ends`: what is found before i, and what is left to find behind it, make what there is to find.
use Rattle.std.proofs.Common.{◌≡◌, ◌||◌, drop}
use Rattle.centralized_telescope.specs.core.Elements.{end_wrong, data_long}
use Rattle.centralized_telescope.proofs.types.find_in_ends.Given as goal

abbrev pub invariant-loop-i : goal.invariant-loop-i
invariant-loop-i g l =
    (l.wrong || end_wrong l.from l.limit (drop l.i g.ends) ≡ end_wrong 0 l.limit g.ends)
    × (l.long || data_long l.from (drop l.i g.ends) ≡ data_long 0 g.ends)
