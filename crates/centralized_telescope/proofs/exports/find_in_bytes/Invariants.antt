-- `find_in_bytes`: its ends are those that the lent bytes stand for.
use Rattle.centralized_telescope.specs.core.Exports.{numbers_of}
use Rattle.centralized_telescope.proofs.exports.find_in_bytes.Given as goal

abbrev pub ghost-find_in_ends : goal.ghost-find_in_ends
ghost-find_in_ends a = numbers_of 4 a.end_at.0.now
