-- `check_list`: its ends are the lent ones.
use Rattle.centralized_telescope.proofs.types.check_list.Given as goal

abbrev pub ghost-find_in_ends : goal.ghost-find_in_ends
ghost-find_in_ends a = a.end_at.0.now
