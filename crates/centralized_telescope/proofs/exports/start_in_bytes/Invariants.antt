-- `start_in_bytes`: its ends are those that the lent bytes stand for.
use Rattle.centralized_telescope.specs.core.Exports.{numbers_of}
use Rattle.centralized_telescope.proofs.exports.start_in_bytes.Given as goal

abbrev pub ghost-start_of : goal.ghost-start_of
ghost-start_of a = numbers_of 4 a.end_at.0.now
