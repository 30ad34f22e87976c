-- `own_data`: the ends are the lent ones.
use Rattle.centralized_telescope.proofs.lists.AcceptedList.own_data.Given as goal

abbrev pub ghost-start_of : goal.ghost-start_of
ghost-start_of a = a.end_at.0.now
